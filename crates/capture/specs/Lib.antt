pub mod Bits
pub mod Limit
pub mod Reader
pub mod Refusals
pub mod Inner
