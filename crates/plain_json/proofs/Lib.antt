pub mod NewNames
pub mod Digits
pub mod Wholes
pub mod Values
pub mod Items
pub mod Members
pub mod Spans
