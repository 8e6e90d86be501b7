pub mod Fronts
pub mod Fold
pub mod Vectors
pub mod Spelled
