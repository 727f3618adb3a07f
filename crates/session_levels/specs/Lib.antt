pub mod Stands
pub mod Acts
