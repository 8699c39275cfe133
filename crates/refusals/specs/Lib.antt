pub mod Rules
pub mod Chain
pub mod Fits
pub mod Unique
pub mod Cases
