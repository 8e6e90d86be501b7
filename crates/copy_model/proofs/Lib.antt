pub mod Scan
pub mod Writes
pub mod RowWrites
pub mod Cursor
pub mod Agreed
pub mod Interleavings
pub mod Blocks
pub mod Filtered
