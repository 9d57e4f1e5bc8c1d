pub mod Packs
pub mod Parts
