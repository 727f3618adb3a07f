pub mod Words
pub mod Reading
pub mod Members
pub mod Refusals
pub mod Replies
pub mod Fits
pub mod Texts
