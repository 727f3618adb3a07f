pub mod Stores
pub mod Opening
pub mod Hosts
pub mod Refused
pub mod Counted
pub mod Homes
