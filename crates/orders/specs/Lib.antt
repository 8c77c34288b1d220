pub mod Orders
pub mod AdmissibleFetched
