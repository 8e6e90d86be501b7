pub mod Recorded
pub mod Single
