pub mod Readable
pub mod Trace
pub mod Lacking
