pub mod Promise
pub mod Difference
pub mod Unique
