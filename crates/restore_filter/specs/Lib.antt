pub mod Rules
pub mod Texts
pub mod Names
pub mod Words
pub mod Laws
