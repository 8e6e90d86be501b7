pub mod Spelled
pub mod Grammar
pub mod Comparing
pub mod Leading
pub mod Elements
pub mod Keys
pub mod Numbered
