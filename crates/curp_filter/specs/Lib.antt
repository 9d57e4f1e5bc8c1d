pub mod Coming
pub mod Keeping
pub mod Saying
pub mod Taking
pub mod Turning
