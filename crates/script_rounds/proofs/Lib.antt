pub mod ListLemmas
pub mod ItemLemmas
pub mod RoundLemmas
pub mod PlanLemmas
pub mod Counting
mod Fronts
mod Weaving
mod Spreading
mod Stepping
