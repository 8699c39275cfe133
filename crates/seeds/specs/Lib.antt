pub mod Seeds
pub mod Expansion
pub mod Streams
pub mod Unique
