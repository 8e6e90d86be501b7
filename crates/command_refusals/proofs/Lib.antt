pub mod Shared
pub mod Rows
pub mod DocumentRows
pub mod Putting
pub mod RowTests
