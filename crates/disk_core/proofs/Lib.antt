pub mod Overlay
pub mod Mixed
pub mod MemLogCrash
pub mod Clock
pub mod MemPagesCrash
pub mod Notes
pub mod Banks
