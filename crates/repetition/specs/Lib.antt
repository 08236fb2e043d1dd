pub mod History
pub mod Repetition
pub mod InRow
pub mod Inner
