pub mod Numbers
pub mod Spelling
pub mod Reading
pub mod ReadRec
pub mod Lawful
