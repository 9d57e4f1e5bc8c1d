pub mod Check
pub mod Reading
pub mod Run
pub mod Status
pub mod Writing
