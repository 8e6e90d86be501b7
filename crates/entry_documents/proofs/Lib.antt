pub mod Documents
pub mod Sizes
