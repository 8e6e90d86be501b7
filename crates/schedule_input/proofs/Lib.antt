pub mod Cutting
pub mod Following
pub mod Pieces
pub mod TextLines
