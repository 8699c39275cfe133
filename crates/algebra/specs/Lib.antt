pub mod Ring
pub mod Sum
pub mod Map
pub mod Composition
pub mod Powers
pub mod Split
pub mod Regroup
