pub mod Alphabets
pub mod Distinct
pub mod Membership
pub mod Tables
pub mod Told
pub mod Translating
pub mod Writing
