pub mod Moved
pub mod Played
