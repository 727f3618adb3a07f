pub mod Numbered
pub mod Lives
pub mod Told
