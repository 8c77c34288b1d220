pub mod Lists
pub mod Scans
pub mod Splits
pub mod Words
