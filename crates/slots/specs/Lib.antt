pub mod Lists
pub mod Places
pub mod Slots
pub mod Conditionals
pub mod SlotWords
pub mod Families
pub mod Stores
