pub mod Held
pub mod Ends
pub mod Raced
