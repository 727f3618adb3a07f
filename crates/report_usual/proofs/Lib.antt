pub mod Digits
pub mod Exchanges
pub mod ListWords
pub mod Told
pub mod Multis
pub mod Records
