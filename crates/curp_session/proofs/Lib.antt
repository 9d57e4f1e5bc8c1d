pub mod Naming
pub mod OneThread
pub mod Standing
pub mod Taken
pub mod Texts
