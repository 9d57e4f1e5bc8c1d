pub mod Calls
pub mod Grows
pub mod Keeps
pub mod Owned
pub mod Takes
