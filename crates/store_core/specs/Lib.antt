pub mod Stores
pub mod Codes
pub mod Applying
pub mod Documents
pub mod Together
pub mod Databases
pub mod Spellings
