pub mod Reading
pub mod Grammar
pub mod Pieces
pub mod Print
pub mod Printing
