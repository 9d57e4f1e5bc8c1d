pub mod Content
pub mod Cuts
pub mod Due
pub mod Slots
pub mod Standing
