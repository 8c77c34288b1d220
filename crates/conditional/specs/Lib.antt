pub mod LineSlots
