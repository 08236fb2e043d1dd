pub mod Follows
pub mod RoundedUp
pub mod Entries
