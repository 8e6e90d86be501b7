pub mod Metadata
pub mod RoundTrip
pub mod Faults
