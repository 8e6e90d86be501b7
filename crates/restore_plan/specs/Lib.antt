pub mod Faults
pub mod Base
pub mod Order
pub mod Taken
pub mod Outcome
pub mod Laws
