pub mod Moving
pub mod Work
