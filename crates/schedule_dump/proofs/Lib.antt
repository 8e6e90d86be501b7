pub mod Refused
pub mod Grown
pub mod Started
pub mod Reaching
pub mod Going
pub mod Coming
