pub mod ByteCheck
