pub mod Drills
pub mod Laws
