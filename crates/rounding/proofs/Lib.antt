pub mod Signed
pub mod Division
pub mod Marks
pub mod Rounding
pub mod Fractions
