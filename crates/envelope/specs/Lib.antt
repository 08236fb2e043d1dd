pub mod Little
pub mod Envelope
