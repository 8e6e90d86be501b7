pub mod Takings
pub mod Names
mod Seats
pub mod Buffers
pub mod Begin
pub mod Turn
pub mod Sight
