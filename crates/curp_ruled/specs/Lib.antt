pub mod Ends
pub mod Envelope
pub mod Load
pub mod Posting
pub mod Rule
