pub mod Causes
pub mod Collected
pub mod Files
pub mod Kinds
pub mod Taking
