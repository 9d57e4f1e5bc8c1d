pub mod Judging
pub mod Live
pub mod Taken
