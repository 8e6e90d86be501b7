pub mod Names
pub mod Changed
pub mod Others
pub mod Joined
pub mod Replay
