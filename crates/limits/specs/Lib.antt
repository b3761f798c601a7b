pub mod FuelLimits
pub mod Concentration
pub mod Internal
