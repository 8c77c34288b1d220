pub mod KnownFamilies
