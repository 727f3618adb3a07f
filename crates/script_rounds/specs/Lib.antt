pub mod Plans
pub mod Stepped
pub mod Counted
pub mod Woven
