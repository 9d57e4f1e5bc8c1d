pub mod Built
pub mod Kept
pub mod Moving
pub mod Rounds
pub mod Settling
pub mod Shells
pub mod Switching
pub mod Updates
