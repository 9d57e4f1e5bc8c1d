pub mod Lives
pub mod OneRun
