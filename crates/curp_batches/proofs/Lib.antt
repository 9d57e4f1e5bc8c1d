pub mod Encodings
pub mod OrderEncodings
pub mod Sequences
pub mod Checksums
pub mod Changes
