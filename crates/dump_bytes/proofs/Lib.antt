pub mod Metadata
pub mod Entries
pub mod Written
