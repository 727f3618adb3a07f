pub mod MultiReadings
pub mod Own
pub mod Limits
pub mod Gens
pub mod Stored
pub mod Snapped
pub mod Telling
pub mod Shown
