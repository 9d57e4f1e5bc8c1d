pub mod Arrivals
pub mod Batches
pub mod Errors
pub mod Orders
pub mod Prefixes
