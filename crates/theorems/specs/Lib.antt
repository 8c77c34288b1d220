pub mod Buffers
pub mod Demand
pub mod OnePlace
pub mod Images
