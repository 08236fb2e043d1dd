pub mod Counts
pub mod Doubles
pub mod Inner
