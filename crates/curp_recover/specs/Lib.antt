pub mod Answers
pub mod Heard
pub mod Stage
pub mod Turned
pub mod Reports
