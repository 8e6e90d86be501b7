pub mod Linear
pub mod Table
pub mod Jumps
pub mod Elements
pub mod Typed
pub mod Blocks
