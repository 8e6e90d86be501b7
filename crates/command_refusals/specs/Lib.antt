pub mod Clashes
pub mod Tests
pub mod Conditions
pub mod Collections
pub mod Operators
pub mod Keyed
