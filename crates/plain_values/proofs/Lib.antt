pub mod Levels
pub mod Decoded
pub mod Parts
pub mod Wrapped
pub mod Given
