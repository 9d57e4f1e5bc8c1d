pub mod Conversation
pub mod Finding
pub mod Fronts
pub mod Replies
pub mod Talk
pub mod Words
