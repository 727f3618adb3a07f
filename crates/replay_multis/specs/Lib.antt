pub mod Steps
pub mod Named
pub mod Restore
pub mod Empty
