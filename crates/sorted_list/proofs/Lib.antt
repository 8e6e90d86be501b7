pub mod Order
pub mod Chunks
pub mod Ends
pub mod Edits
pub mod Near
pub mod Rooms
