pub mod Verdicts
pub mod Rules
pub mod Lines
pub mod Pass
