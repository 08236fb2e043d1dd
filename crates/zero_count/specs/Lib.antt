pub mod ZeroCount
pub mod Inner
