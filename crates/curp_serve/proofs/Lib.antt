pub mod Going
pub mod Quieting
pub mod Leading
pub mod Behind
