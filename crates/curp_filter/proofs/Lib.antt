pub mod Coming
pub mod Judging
pub mod Keeping
pub mod Replies
pub mod Running
pub mod Saying
pub mod Together
pub mod Turning
