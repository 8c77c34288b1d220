pub mod Parts
pub mod ReadPlaces
pub mod StoredPlaces
pub mod LineSlots
pub mod Covered
