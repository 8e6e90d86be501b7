pub mod Branches
pub mod HeldBranches
pub mod Keys
pub mod Definition
pub mod Texts
pub mod Faults
pub mod Laws
