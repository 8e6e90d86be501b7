pub mod Literals
pub mod Matches
pub mod Reading
pub mod Search
