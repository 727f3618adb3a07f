pub mod Linking
pub mod Backwards
