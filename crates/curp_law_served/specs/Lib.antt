pub mod Ways
pub mod Calm
pub mod Grounds
pub mod Recovers
pub mod Renews
pub mod Learns
pub mod Served
