pub mod GivenAt
pub mod Marking
pub mod Everywhere
pub mod Cutoffs
pub mod Showing
pub mod Dumped
