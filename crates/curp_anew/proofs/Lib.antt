pub mod Counts
mod Fresh
pub mod Handed
mod Pairs
mod Pendings
mod Scans
