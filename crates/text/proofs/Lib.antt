pub mod Rooms
pub mod Lines
pub mod Decimals
pub mod Beginnings
pub mod Readers
pub mod Writings
