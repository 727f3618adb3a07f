pub mod Parents
pub mod Offsets
pub mod Changes
pub mod Slots
pub mod Runs
