pub mod Parts
pub mod Records
pub mod Modelled
pub mod Lengths
pub mod Numbered
