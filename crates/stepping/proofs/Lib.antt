pub mod Made
pub mod EndsKept
