pub mod Walked
pub mod WholeRun
