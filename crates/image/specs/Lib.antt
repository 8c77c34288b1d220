pub mod Directory
pub mod Check
pub mod Bytes
