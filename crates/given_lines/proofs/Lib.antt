pub mod Given
pub mod Timed
