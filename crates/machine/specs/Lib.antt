pub mod Machine
pub mod Fetches
pub mod Indices
pub mod Conditions
pub mod SlotConditions
