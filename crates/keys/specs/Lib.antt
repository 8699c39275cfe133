pub mod Generates
pub mod KeyPlaces
pub mod Parts
pub mod Elements
pub mod Unique
