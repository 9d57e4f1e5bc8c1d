pub mod Endings
pub mod Scripts
pub mod SoFar
pub mod Pieces
mod Prefixes
mod Runs
mod Judging
