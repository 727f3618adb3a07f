pub mod Counting
pub mod Announced
pub mod Telling
pub mod Ending
pub mod Taking
