pub mod Locks
pub mod Plain
pub mod Rooms
pub mod Logs
pub mod Ends
pub mod Gens
