pub mod Batches
pub mod Stopped
