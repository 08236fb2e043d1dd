pub mod Estimates
pub mod Estimators
