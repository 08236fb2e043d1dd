pub mod Alphabet
pub mod Inner
