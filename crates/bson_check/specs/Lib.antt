pub mod Reading
pub mod Passing
pub mod Spells
pub mod Faults
pub mod Blocks
pub mod Slots
pub mod Sieve
pub mod NameSet
