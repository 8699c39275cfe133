pub mod Words
pub mod Multiples
pub mod Lookups
pub mod Unique
