pub mod Counting
pub mod Commonest
pub mod Sayings
pub mod Place
pub mod Running
pub mod Ones
pub mod Examples
