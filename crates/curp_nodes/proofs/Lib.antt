pub mod Additions
pub mod Adoptions
pub mod Numbers
