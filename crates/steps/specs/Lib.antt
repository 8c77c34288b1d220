pub mod Steps
pub mod SlotSteps
