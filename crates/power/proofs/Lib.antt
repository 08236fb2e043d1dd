-- The laws of `power_of`.
pub mod Halves
pub mod Unit
pub mod Error
mod Examples
