pub mod Bitstring
pub mod Limits
pub mod Reading
pub mod Refusals
pub mod Sources
pub mod Told
pub mod Walking
pub mod Widest
