pub mod Begins
pub mod Longest
pub mod Refusing
pub mod Alone
pub mod Reaching
pub mod Pinning
pub mod Shaping
pub mod Telling
