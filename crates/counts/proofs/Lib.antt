pub mod Refusals
pub mod Whole
pub mod One
