pub mod Rating
pub mod Who
