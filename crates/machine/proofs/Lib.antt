pub mod Places
pub mod Ends
pub mod Fetches
pub mod Spans
pub mod WorkedConditions
pub mod Partners
pub mod SlotConditions
