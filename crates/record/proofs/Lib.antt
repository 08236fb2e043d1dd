pub mod Cases
pub mod Kept
pub mod Trip
pub mod Results
pub mod Told
