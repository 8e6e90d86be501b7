pub mod Drills
pub mod Restores
