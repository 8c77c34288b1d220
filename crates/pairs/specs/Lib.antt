pub mod Pairs
pub mod Units
