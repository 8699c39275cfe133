pub mod Numbers
pub mod TermPlaces
pub mod Blocks
pub mod Coefficients
pub mod Laid
pub mod TermOf
pub mod Unique
