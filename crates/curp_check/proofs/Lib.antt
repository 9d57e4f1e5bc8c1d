mod Encoded
mod Finding
mod Ids
pub mod Items
mod Short
pub mod Stages
mod Sweeps
mod Tests
pub mod Verdicts
