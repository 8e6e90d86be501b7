pub mod Few
pub mod Times
