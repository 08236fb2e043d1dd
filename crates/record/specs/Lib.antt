pub mod Record
pub mod Flag
pub mod Told
pub mod Inner
