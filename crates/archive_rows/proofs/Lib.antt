pub mod Heads
pub mod Shapes
pub mod Writing
