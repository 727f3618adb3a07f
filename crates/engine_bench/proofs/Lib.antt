pub mod Steps
pub mod Crewing
pub mod Beginning
