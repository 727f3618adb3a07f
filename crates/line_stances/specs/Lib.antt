pub mod Giving
pub mod Settled
pub mod Snapshots
