pub mod Keccak
pub mod Lanes
pub mod Bits
pub mod Words
pub mod Steps
pub mod Constants
pub mod Unique
