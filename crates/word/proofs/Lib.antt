pub mod Shifts
pub mod BitLaws
pub mod Reversal
pub mod Swaps
pub mod WrapAround
pub mod Sums
