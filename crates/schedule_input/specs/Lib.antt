pub mod Places
pub mod Inputs
