-- The laws of the logarithm.
pub mod Literals
pub mod Exponent
pub mod Fraction
pub mod Reduction
pub mod Special
mod Examples
