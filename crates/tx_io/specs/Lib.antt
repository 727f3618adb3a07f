pub mod Causes
pub mod Bytes
pub mod Planned
pub mod Amounts
