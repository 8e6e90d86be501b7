pub mod Steps
pub mod Updates
pub mod Sizes
