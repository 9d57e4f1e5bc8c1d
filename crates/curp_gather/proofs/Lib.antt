pub mod ByMachine
pub mod Gathered
pub mod Holding
pub mod Mismatches
pub mod Ready
pub mod Scans
