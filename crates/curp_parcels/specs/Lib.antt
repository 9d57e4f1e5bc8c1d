pub mod Buffer
pub mod Outgoing
pub mod Parcels
pub mod Reading
