pub mod Pieces
pub mod Shaped
