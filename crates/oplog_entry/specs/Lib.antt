pub mod Answers
pub mod DiffFields
pub mod PathTouches
pub mod Parts
