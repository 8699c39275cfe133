pub mod Labels
pub mod Accepts
pub mod Name
