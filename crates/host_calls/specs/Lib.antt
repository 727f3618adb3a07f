pub mod Added
pub mod Moments
pub mod Synced
pub mod Made
pub mod Shown
pub mod Dumps
