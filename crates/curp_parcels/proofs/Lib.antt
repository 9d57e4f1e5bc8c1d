pub mod Buffers
pub mod Formats
pub mod Found
pub mod Lengths
pub mod Reading
