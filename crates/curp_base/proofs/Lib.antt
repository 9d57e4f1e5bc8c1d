pub mod Ends
pub mod Lists
pub mod Numbered
pub mod Places
pub mod Rising
pub mod Runs
pub mod Values
