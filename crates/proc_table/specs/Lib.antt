pub mod Entries
pub mod Lists
pub mod Lives
pub mod State
pub mod Table
