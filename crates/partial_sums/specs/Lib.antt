pub mod Products
pub mod LeftRight
pub mod Filled
pub mod SumPlaces
pub mod Unique
