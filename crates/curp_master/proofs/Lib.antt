pub mod Begun
pub mod Collections
pub mod Ends
pub mod KeptUp
pub mod Packed
pub mod Settled
pub mod Suffixes
pub mod Suspected
