pub mod Rows
pub mod Lanes
pub mod Terms
