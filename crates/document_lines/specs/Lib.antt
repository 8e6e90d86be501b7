pub mod Digits
pub mod Elems
pub mod Json
pub mod Lines
pub mod Strings
