pub mod Correction
pub mod Tmax
pub mod Trellis
pub mod Despread
pub mod Clu
