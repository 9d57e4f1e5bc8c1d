pub mod Counting
mod Delivery
mod Hashes
pub mod Lines
mod Numbers
mod Parts
mod Twos
mod Values
