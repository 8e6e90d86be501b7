pub mod Entries
pub mod formers
pub mod Small
