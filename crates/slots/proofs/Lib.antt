pub mod Tests
pub mod Picks
pub mod Reading
pub mod Valid
pub mod SlotWords
pub mod ReadCodes
pub mod Others
pub mod ConditionalReads
