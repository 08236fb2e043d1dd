pub mod Levels
pub mod Counters
pub mod Guesses
pub mod Space
pub mod Mmc
pub mod Inner
