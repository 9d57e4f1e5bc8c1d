pub mod Growth
pub mod Left
pub mod Naming
pub mod Readiness
pub mod Scanning
pub mod Senders
pub mod Stamps
pub mod Sums
