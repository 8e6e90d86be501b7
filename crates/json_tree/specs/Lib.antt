pub mod formers
pub mod Numbers
pub mod Levels
pub mod WellFormed
pub mod Covers
