pub mod Changes
pub mod Parts
pub mod Found
pub mod Entries
pub mod FieldDeltas
pub mod Singles
