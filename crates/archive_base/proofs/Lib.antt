pub mod ReadOrder
pub mod Copies
pub mod Metas
pub mod Parts
pub mod Cuts
pub mod Bases
