pub mod Steps
pub mod Leavings
pub mod Takings
pub mod Pinnings
pub mod Raisings
pub mod Raised
