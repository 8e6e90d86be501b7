pub mod Order
pub mod Chunks
pub mod Rooms
pub mod Compare
