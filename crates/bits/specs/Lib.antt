pub mod Pick
pub mod Signed
pub mod Sums
pub mod Flags
pub mod Ops
