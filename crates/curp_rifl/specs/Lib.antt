pub mod Clients
pub mod Records
pub mod Stored
