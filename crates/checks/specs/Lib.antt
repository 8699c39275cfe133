pub mod Passing
pub mod Lent
pub mod Checked
pub mod Unique
