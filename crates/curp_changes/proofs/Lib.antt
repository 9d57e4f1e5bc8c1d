pub mod Listed
pub mod Opened
pub mod SpansMoved
pub mod Spread
