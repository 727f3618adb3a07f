pub mod Visits
pub mod Freezes
pub mod Trims
pub mod Members
pub mod Reached
