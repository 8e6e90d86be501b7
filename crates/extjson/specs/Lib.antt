pub mod Trees
pub mod Recursion
pub mod Numbers
pub mod Wrappers
pub mod Values
pub mod RoundTrip
pub mod Plain
pub mod Levels
