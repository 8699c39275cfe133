pub mod Terms
pub mod Gathering
pub mod Adding
pub mod FromSums
pub mod SumsPlaces
pub mod Gain
pub mod Accumulate
pub mod Unique
