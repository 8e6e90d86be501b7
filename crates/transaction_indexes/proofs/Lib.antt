pub mod Refusing
pub mod Indexes
pub mod TakingBack
