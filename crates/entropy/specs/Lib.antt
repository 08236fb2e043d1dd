pub mod Entropy
pub mod MinEntropy
pub mod DemandThree
