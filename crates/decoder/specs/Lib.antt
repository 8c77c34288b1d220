pub mod Trellis
pub mod Paths
pub mod Survivors
pub mod BestPath
pub mod Exported
