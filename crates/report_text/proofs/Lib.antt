pub mod MoreWords
pub mod Differing
