pub mod Fronts
pub mod Frames
pub mod Steps
