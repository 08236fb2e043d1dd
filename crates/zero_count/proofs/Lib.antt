pub mod Fractions
pub mod Digits
pub mod Search
pub mod Cases
pub mod Range
pub mod Accuracy
