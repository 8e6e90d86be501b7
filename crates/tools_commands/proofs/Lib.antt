pub mod Numbers
pub mod Reading
pub mod Telling
pub mod Dumping
pub mod Pieces
pub mod Running
