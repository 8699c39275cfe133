pub mod Judging
pub mod Marking
pub mod Listing
pub mod Keeping
pub mod Salvages
pub mod Theorems
