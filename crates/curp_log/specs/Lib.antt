pub mod Content
pub mod Ops
pub mod State
pub mod Taken
