pub mod Commands
pub mod Progress
pub mod Reading
pub mod Inputs
