pub mod Answered
pub mod Beginning
pub mod Generating
pub mod PinnedRaises
pub mod Readying
