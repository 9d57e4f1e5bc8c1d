pub mod Given
pub mod Marked
pub mod Marks
pub mod Nodes
