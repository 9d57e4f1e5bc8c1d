pub mod Driving
pub mod Due
pub mod Recoveries
