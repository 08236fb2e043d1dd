-- What the contract of `power` cites.
pub mod Power
