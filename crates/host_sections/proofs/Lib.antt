pub mod Aloneness
pub mod LogSteps
pub mod BankSteps
pub mod Refusals
pub mod Asking
pub mod Noted
