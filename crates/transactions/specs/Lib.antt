pub mod Transactions
pub mod Steps
pub mod Shown
pub mod Scratch
pub mod Running
