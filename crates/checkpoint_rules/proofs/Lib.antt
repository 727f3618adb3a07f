pub mod Columns
pub mod OwnRecord
pub mod Stepping
pub mod Midway
pub mod Reaching
