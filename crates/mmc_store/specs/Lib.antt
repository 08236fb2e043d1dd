pub mod Counts
pub mod Levels
pub mod Mmc
pub mod Space
pub mod Inner
