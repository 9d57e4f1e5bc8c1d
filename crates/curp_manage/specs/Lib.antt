pub mod Kept
pub mod Lines
pub mod Managed
pub mod Text
