pub mod Dumps
pub mod Calls
pub mod Faults
pub mod Rings
pub mod Preludes
pub mod Reads
