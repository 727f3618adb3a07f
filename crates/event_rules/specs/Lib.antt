pub mod Lined
pub mod Same
pub mod Told
pub mod SnapsTold
pub mod Fronts
