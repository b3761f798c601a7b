pub mod Tests
pub mod Outside
pub mod Lowest
pub mod Outcomes
pub mod Methods
