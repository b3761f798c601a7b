pub mod Questions
pub mod Conditions
