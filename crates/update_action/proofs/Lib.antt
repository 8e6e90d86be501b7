pub mod Alike
pub mod Texts
pub mod One
pub mod Again
