pub mod Fetched
pub mod Stored
pub mod OtherFamilies
pub mod AccessFetch
pub mod BufferRead
pub mod StoredPlaces
pub mod StoredWords
pub mod Delivered
