pub mod Tables
pub mod Points
pub mod Internal
