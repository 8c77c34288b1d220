pub mod Magnitudes
pub mod Judgements
