pub mod Elements
pub mod Above
pub mod Weights
