pub mod Held
pub mod Names
pub mod Steps
pub mod Takes
pub mod Told
