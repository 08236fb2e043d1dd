pub mod Told
pub mod Deficits
pub mod Planes
pub mod Steps
pub mod Racing
