pub mod Gives
mod Expiring
mod ByKind
mod Moves
mod Openings
mod Shown
mod Turns
mod Weaving
