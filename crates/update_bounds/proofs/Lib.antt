pub mod First
pub mod Small
