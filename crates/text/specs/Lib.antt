pub mod Parts
pub mod Numerals
pub mod Tables
pub mod Numbers
