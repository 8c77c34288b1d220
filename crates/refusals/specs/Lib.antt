pub mod Refusals
pub mod MemoryUses
