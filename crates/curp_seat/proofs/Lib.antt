pub mod Agains
