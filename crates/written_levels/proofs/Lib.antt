pub mod Standing
pub mod Shallow
