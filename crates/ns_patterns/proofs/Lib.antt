pub mod Search
pub mod Leftmost
pub mod Takes
pub mod Renaming
pub mod Reading
