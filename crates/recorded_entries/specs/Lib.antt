pub mod Given
pub mod Good
pub mod Kept
pub mod Laws
