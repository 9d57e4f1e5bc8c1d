pub mod Cases
pub mod Failing
pub mod Limits
pub mod Places
pub mod Reserving
pub mod Words
