pub mod Snapping
pub mod Levelling
