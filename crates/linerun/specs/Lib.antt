pub mod BytesRun
