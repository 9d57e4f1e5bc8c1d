pub mod Carrying
pub mod Making
pub mod Taking
