pub mod PlaceSets
pub mod StoredSets
pub mod Ranges
