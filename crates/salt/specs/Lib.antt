pub mod Salt
pub mod Unique
