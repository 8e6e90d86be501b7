pub mod Calls
pub mod KeyTexts
pub mod Numbers
