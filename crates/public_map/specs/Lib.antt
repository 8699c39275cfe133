pub mod MapRows
pub mod MapPlaces
pub mod MapSums
pub mod Values
pub mod Unique
