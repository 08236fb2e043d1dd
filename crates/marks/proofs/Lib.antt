pub mod Chunks
pub mod Seeing
pub mod Ranks
