pub mod Evidence
pub mod Machine
pub mod Refusals
pub mod Refused
pub mod Requests
