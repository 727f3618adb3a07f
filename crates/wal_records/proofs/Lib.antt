pub mod Loop
pub mod Fields
pub mod Records
pub mod ReadLemmas
pub mod Lengths
pub mod LawfulTests
pub mod Kept
