pub mod Words
pub mod Ways
pub mod Answers
pub mod Places
