pub mod Packing
pub mod Written
pub mod Spread
pub mod Refusals
pub mod Unique
pub mod Example
