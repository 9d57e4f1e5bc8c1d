pub mod Answered
pub mod Made
pub mod Masters
pub mod Named
pub mod Workloads
