-- The laws of the square root, and those of a double's pattern that it rests on.
pub mod Roots
pub mod Excess
pub mod Powers
pub mod Shift
pub mod Patterns
pub mod AboveZero
pub mod Rounded
pub mod Special
pub mod CorrectRounding
pub mod Range
pub mod Above
pub mod Steps
mod Examples
