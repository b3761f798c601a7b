pub mod Beta
pub mod Admission
pub mod Stoichiometric
pub mod Internal
