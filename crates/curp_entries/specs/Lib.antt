pub mod EntryList
pub mod Packed
pub mod Requests
