-- What the contracts of this crate cite.
pub mod Ln
pub mod Inner
