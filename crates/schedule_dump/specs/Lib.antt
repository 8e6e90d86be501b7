pub mod Lines
pub mod Progress
pub mod Outcomes
pub mod Texts
