pub mod Round
pub mod Fraction
pub mod Rounds
pub mod Internal
