pub mod Bounds
pub mod Floats
