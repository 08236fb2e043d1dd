pub mod SmallCaptures
