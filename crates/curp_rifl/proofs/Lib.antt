pub mod Changes
pub mod Marks
pub mod Picked
pub mod Runs
