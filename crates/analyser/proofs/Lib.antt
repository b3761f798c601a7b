pub mod Order
pub mod Bits
pub mod Admitted
