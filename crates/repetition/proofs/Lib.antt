pub mod Runs
pub mod Histories
pub mod Hearing
pub mod Once
pub mod InRow
pub mod Starting
pub mod Told
