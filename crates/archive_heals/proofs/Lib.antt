pub mod Fine
pub mod Healing
