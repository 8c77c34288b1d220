pub mod Board
pub mod Names
pub mod Calls
pub mod Row
pub mod Tally
