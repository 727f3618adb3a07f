pub mod Refusals
pub mod Lives
pub mod Reopening
pub mod NextLives
pub mod FirstLives
pub mod Sections
pub mod Courses
