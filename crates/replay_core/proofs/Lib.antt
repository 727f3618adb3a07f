mod PastIds
mod PastMultis
mod OneId
mod Redoing
mod Restoring
mod OnDisk
mod Emptying
mod Fitting
mod FittingOffsets
mod FittingMembers
mod Phases
mod LaterMultis
pub mod Rows
mod BankRows
mod StoreRows
mod LaterLogs
pub mod Locating
mod Joining
mod Settling
mod Prefixed
mod Recovering
mod Throughout
pub mod Refusing
