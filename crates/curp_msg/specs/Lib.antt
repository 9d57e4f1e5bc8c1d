pub mod Example
pub mod Input
pub mod Limits
pub mod Moved
pub mod Text
pub mod Told
pub mod Weight
pub mod Script
