pub mod Comparing
pub mod Key
pub mod Laws
pub mod Leading
pub mod Numbered
