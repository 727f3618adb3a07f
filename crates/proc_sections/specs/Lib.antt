pub mod Givings
pub mod Endings
pub mod Undos
pub mod Askings
pub mod Horizons
pub mod Announcements
