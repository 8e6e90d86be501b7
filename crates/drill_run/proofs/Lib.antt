pub mod Healing
pub mod Refusing
pub mod Reported
