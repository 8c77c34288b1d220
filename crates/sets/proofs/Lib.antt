pub mod Words
pub mod PlaceLists
pub mod PlaceSets
pub mod StoredSets
pub mod Ranges
