pub mod EndsLaid
pub mod Seams
pub mod States
