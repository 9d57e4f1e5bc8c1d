pub mod Ascendings
pub mod Ids
pub mod Nodes
mod Puts
mod Hashed
mod Values
pub mod Apart
mod Maps
mod Digits
