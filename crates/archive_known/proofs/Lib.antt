pub mod Contents
pub mod Readings
pub mod Windows
pub mod Known
