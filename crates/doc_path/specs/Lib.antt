pub mod Touch
pub mod Played
pub mod Ways
pub mod Rules
pub mod Paths
pub mod Places
pub mod Left
pub mod Laws
