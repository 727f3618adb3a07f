pub mod Told
pub mod IdMarks
pub mod SnapMarks
pub mod Starts
pub mod MultiTold
pub mod Opens
