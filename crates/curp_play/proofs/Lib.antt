mod Claims
pub mod Parts
pub mod Printing
