pub mod Kept
pub mod Tails
pub mod Waits
