pub mod Betas
pub mod Admissions
pub mod Stoichiometry
pub mod Numbered
