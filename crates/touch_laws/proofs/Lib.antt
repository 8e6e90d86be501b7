pub mod Replay
pub mod Cover
pub mod Frame
pub mod Done
pub mod Order
pub mod PlayedLaws
pub mod Agreement
pub mod Bridge
