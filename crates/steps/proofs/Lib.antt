pub mod Nth
pub mod Stepped
pub mod Performed
pub mod LineActs
pub mod EndsHeld
pub mod StepsTrue
