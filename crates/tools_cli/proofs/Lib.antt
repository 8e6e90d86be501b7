pub mod Due
pub mod Replaying
pub mod Written
pub mod Completed
