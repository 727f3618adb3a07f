mod Living
pub mod Counts
mod Followed
mod Reopened
pub mod GoingOn
mod Fitting
mod MultisFollowed
mod Finding
pub mod Sections
pub mod Through
pub mod MultisThrough
