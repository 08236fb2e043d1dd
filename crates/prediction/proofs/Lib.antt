pub mod EstimateRanges
pub mod Estimating
pub mod Reaching
