pub mod Bytes
pub mod Decimal
pub mod Beginning
pub mod Reader
pub mod Line
pub mod Room
pub mod Writing
pub mod Internal
