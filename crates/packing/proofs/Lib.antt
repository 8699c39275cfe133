pub mod Laws
pub mod Written
pub mod RoundTrip
pub mod Unique
