pub mod Characters
pub mod Entries
pub mod Joining
