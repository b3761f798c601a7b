pub mod Numbers
pub mod Marks
pub mod Outcome
pub mod Lowest
pub mod Outside
pub mod Methods
pub mod Internal
