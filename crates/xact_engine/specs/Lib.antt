pub mod Levels
pub mod Snapshots
