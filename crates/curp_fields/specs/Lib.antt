pub mod Fields
pub mod Encoded
pub mod Encoding
