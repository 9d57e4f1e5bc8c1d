pub mod Ascending
pub mod Cuts
pub mod Joins
pub mod Places
pub mod Same
pub mod Sets
pub mod Tests
