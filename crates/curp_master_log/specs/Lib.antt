pub mod MasterLog
pub mod Suspects
