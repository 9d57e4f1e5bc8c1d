pub mod Ends
pub mod Nothing
pub mod Puts
pub mod Runs
pub mod Shown
pub mod Steps
pub mod Stops
