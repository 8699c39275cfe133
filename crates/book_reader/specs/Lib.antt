pub mod Passed
pub mod Parts
pub mod Told
pub mod Unique
