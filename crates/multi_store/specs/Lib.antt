pub mod Generator
pub mod Members
pub mod Pins
pub mod State
