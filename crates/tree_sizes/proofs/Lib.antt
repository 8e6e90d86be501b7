pub mod Prints
pub mod Short
