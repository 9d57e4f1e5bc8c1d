pub mod Named
pub mod Holding
pub mod Trip
pub mod Reading
pub mod Meeting
