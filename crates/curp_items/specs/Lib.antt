pub mod Bounds
pub mod Calls
pub mod Format
pub mod Items
pub mod Encoding
