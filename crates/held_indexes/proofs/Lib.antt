pub mod Risen
pub mod Shared
pub mod Collections
