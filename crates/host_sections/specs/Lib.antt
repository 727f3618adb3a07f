pub mod HostEntries
pub mod Asked
