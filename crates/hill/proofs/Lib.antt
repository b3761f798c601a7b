pub mod Lines
pub mod Trees
pub mod RoundTrips
