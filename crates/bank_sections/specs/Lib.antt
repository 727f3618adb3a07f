pub mod Refusals
pub mod Sections
pub mod Reads
pub mod Sets
pub mod Faults
pub mod Parents
pub mod Cuts
