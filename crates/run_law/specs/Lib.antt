pub mod Turns
pub mod Refusals
pub mod Lives
pub mod Tool
pub mod Counting
