pub mod Named
pub mod Kept
pub mod Spared
pub mod Cuts
pub mod Lengths
pub mod PlainTouches
pub mod Replayed
