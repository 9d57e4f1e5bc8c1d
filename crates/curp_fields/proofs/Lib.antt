pub mod Formats
pub mod Having
pub mod SpanLists
