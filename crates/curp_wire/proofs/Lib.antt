pub mod Frames
pub mod ItemSizes
pub mod Lightness
pub mod Sizes
