pub mod NodeStates
pub mod Openings
pub mod Run
