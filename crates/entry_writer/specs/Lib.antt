pub mod Elements
pub mod Edits
pub mod Groups
pub mod Order
pub mod Levels
pub mod Bodies
