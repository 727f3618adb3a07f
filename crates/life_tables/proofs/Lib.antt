pub mod Lining
pub mod Logging
pub mod Snapped
