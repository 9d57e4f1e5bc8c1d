pub mod Beside
pub mod Known
pub mod Suffixes
pub mod Suspected
