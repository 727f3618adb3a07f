pub mod Plainly
pub mod Faulty
pub mod Named
pub mod Strays
