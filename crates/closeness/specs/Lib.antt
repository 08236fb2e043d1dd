-- What the contracts of this crate cite.
pub mod Magnitude
pub mod Close
