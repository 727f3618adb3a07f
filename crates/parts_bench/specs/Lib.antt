pub mod Plain
pub mod Crew
pub mod Turns
