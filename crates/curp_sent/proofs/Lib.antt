pub mod BatchLaws
pub mod Inserting
