pub mod Alu
pub mod Shifter
pub mod Addresses
pub mod Swaps
pub mod Ialu
