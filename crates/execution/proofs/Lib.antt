pub mod NotRefused
pub mod Registers
pub mod Touched
pub mod LineSlots
pub mod ThrPriority
pub mod FetchedLines
pub mod EndsKept
