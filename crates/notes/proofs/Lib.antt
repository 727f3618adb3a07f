pub mod Growing
pub mod Names
