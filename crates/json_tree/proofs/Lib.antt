pub mod Depth
pub mod Names
pub mod Levels
pub mod WellFormed
