pub mod Field
pub mod Checked
pub mod Laws
pub mod Powers
pub mod Unique
pub mod FieldRing
