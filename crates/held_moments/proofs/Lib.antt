pub mod Taken
pub mod Effects
pub mod Moments
