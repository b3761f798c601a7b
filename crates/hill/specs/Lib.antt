pub mod Hill
pub mod Writing
pub mod RoundTrip
