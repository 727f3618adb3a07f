pub mod Stops
pub mod Trees
pub mod Ends
pub mod Aborts
pub mod Undos
pub mod Logged
