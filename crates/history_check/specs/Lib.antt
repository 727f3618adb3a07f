pub mod Inside
pub mod Links
pub mod GivenIds
pub mod Opened
pub mod Replays
pub mod MultiReplays
