pub mod Rings
pub mod Longest
