pub mod Refusals
pub mod Sections
pub mod Offsets
pub mod Members
