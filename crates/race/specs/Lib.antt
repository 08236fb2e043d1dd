pub mod Race
pub mod Inner
