pub mod Machines
pub mod Nodes
pub mod Refusals
pub mod Stages
