pub mod Answers
pub mod Content
