pub mod Events
pub mod Lines
mod Objects
pub mod ReadBack
