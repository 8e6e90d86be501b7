pub mod Writes
pub mod Cursors
pub mod Copies
pub mod Torn
pub mod Blocks
pub mod Laws
