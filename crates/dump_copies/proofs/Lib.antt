pub mod Named
pub mod First
pub mod Stepped
