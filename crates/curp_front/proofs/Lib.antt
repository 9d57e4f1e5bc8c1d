pub mod Finding
pub mod Replies
pub mod Settling
pub mod Splitting
pub mod Talk
