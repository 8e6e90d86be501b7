pub mod Sorted
pub mod Metas
pub mod Sound
pub mod Takings
