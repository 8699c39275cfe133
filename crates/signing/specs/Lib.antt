pub mod Signs
pub mod Signature
pub mod Writing
pub mod Emitting
pub mod Solving
pub mod Building
pub mod Outcomes
pub mod Unique
