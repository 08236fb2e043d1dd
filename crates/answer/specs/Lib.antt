pub mod Numbers
pub mod Refused
pub mod Predicted
pub mod Results
