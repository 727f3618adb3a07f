pub mod Answered
pub mod AskedFor
pub mod Counts
pub mod Ends
pub mod Firsts
pub mod Behind
pub mod Judging
