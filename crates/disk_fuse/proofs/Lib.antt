pub mod Fused
pub mod FuseMoves
