pub mod Order
pub mod Viterbi
pub mod Stages
pub mod Passes
pub mod Answers
pub mod Recurrence
pub mod WorkedPaths
