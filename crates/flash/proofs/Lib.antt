pub mod Sizes
pub mod Columns
pub mod Sums
pub mod Steps
pub mod Tables
