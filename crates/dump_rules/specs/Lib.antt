pub mod Cutting
pub mod Gens
pub mod Replying
pub mod Shown
