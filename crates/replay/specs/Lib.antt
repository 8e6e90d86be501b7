pub mod Moves
pub mod Refusals
pub mod Splicing
pub mod Steps
