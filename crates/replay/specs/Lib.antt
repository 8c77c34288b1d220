pub mod Names
pub mod Compare
pub mod Outcome
pub mod Record
pub mod Case
pub mod File
pub mod Cases
