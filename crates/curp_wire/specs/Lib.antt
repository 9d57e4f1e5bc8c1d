pub mod Errors
pub mod Frame
pub mod Light
