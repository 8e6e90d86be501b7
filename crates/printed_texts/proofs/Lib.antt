pub mod Strings
pub mod Prints
