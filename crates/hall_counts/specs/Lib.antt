pub mod Tally
pub mod Keeping
pub mod Steps
