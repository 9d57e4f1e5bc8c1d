pub mod Ended
pub mod Serving
