pub mod Ones
pub mod Say
pub mod Counts
