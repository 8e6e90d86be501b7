pub mod Reasons
pub mod Outcomes
mod Tests
mod Order
mod Apart
mod Ripeness
mod Steps
mod LastFaults
pub mod Endings
mod Definitions
