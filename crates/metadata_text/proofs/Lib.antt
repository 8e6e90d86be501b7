pub mod Definitions
pub mod Shapes
pub mod ReadBack
pub mod Normal
