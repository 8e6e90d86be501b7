pub mod Archive
pub mod Crc
pub mod Laws
pub mod Shapes
pub mod Written
