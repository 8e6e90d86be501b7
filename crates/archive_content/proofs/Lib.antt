pub mod Blocks
pub mod Pieces
pub mod Seats
pub mod Contents
