pub mod Backups
pub mod Captures
pub mod Indexes
pub mod Phases
