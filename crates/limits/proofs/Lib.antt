pub mod Alone
pub mod Concentrations
pub mod Numbered
