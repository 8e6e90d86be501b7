pub mod Values
pub mod Words
pub mod Patterns
pub mod Laws
