pub mod Pushes
pub mod Newest
pub mod Trims
pub mod Kept
