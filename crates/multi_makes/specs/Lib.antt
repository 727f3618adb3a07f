pub mod Full
pub mod Logged
pub mod Pending
pub mod Slots
pub mod Visits
pub mod Makes
