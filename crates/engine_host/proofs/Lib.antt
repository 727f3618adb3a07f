pub mod FirstEnds
pub mod Starting
pub mod Hosting
pub mod Parking
mod Multis
pub mod Refusing
mod Counting
pub mod Homing
