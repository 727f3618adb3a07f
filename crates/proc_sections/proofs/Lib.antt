pub mod Looked
pub mod Making
pub mod Naming
pub mod Closing
pub mod Cutting
pub mod Questions
pub mod Announced
