pub mod Again
pub mod Ends
pub mod Entries
pub mod Movable
pub mod Ordered
pub mod Steps
