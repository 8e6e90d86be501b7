pub mod Moments
pub mod Parts
pub mod Progresses
pub mod Telling
pub mod Following
