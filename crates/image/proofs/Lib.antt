pub mod Pairs
pub mod Walk
pub mod AcceptedImage
pub mod LittleEndian
