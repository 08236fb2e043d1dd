pub mod Rated
pub mod Refused
pub mod Who
