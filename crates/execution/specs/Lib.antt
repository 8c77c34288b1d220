pub mod PlainLine
pub mod Touches
