pub mod Filling
pub mod ToldLemmas
pub mod GivingAll
