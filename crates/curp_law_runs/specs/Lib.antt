pub mod Adopting
pub mod Along
pub mod Answered
pub mod GivenStand
pub mod Orders
pub mod Steps
