pub mod Takings
pub mod Replayed
