pub mod Ending
pub mod Messages
