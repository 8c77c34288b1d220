pub mod Held
pub mod Fetching
pub mod Storing
pub mod StoredWords
pub mod Operands
pub mod FetchedSlots
