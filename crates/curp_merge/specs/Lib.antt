pub mod Causes
pub mod Held
pub mod Merging
pub mod Weaving
