pub mod Shown
pub mod Following
pub mod Laws
pub mod Reversal
