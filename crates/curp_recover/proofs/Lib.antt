pub mod Behind
pub mod Came
pub mod Stored
pub mod Reports
pub mod Silent
