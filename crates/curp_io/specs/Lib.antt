pub mod Buffer
pub mod Memory
pub mod ReadAhead
pub mod Standard
pub mod Streaming
pub mod Streams
pub mod Sure
pub mod Text
