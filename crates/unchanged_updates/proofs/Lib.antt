pub mod Beside
pub mod Placed
pub mod Acts
pub mod Apart
pub mod Unchanged
