mod Values
mod Names
mod Documents
mod Walking
pub mod Changes
pub mod Singles
pub mod Elements
pub mod FieldDeltas
