pub mod RunText
pub mod Text
