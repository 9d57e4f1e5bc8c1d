pub mod Play
pub mod Players
pub mod Show
