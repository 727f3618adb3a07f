pub mod Ancestors
pub mod Apart
pub mod Glances
pub mod Readings
pub mod Stores
pub mod Multis
