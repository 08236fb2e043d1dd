pub mod Little
pub mod Envelope
pub mod Putting
pub mod Reading
