pub mod Commands
pub mod Draws
pub mod Making
pub mod Texts
