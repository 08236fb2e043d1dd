pub mod Translated
pub mod Answers
pub mod Ran
pub mod Who
