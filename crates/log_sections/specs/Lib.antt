pub mod LogSections
pub mod MultiRecords
pub mod Rooms
