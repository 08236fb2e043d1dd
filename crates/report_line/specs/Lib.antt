pub mod Line
pub mod Numerals
