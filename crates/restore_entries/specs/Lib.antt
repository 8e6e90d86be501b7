pub mod Cut
pub mod Documents
pub mod Oplog
pub mod Laws
pub mod FieldDeltas
