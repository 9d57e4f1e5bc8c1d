pub mod Kept
pub mod Queue
pub mod Tail
