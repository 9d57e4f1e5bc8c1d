pub mod Buffer
pub mod Streams
pub mod Text
