pub mod Causes
pub mod Journals
pub mod Prefixes
pub mod Replays
pub mod Ruled
