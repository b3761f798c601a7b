pub mod Mixture
pub mod ByModel
pub mod Answer
