pub mod LineWords
pub mod Kinds
pub mod Arguments
pub mod Members
pub mod Commands
pub mod Said
pub mod Directives
pub mod Header
