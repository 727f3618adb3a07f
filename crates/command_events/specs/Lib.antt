pub mod Told
pub mod Reached
pub mod Shapes
