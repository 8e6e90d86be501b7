mod Cuts
mod Plays
mod Readings
pub mod Documents
pub mod Acts
pub mod FieldDeltas
