pub mod BlockRows
pub mod Sides
pub mod Equation
pub mod System
pub mod Unique
