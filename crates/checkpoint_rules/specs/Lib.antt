pub mod Asked
pub mod Behind
pub mod Midst
pub mod Noting
