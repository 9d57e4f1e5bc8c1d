pub mod Joining
pub mod Pending
