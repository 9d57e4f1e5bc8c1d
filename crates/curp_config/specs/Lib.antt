pub mod Machine
pub mod Parts
pub mod Refusals
pub mod Refused
pub mod Work
