pub mod Acks
pub mod Fresh
pub mod Places
pub mod Prefixes
pub mod Waiting
