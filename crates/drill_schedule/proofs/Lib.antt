pub mod Bytes
pub mod Spellings
pub mod Lines
pub mod Rows
pub mod Counts
pub mod Whole
pub mod Plain
