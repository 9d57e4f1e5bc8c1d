pub mod Opening
pub mod Work
