pub mod Block
pub mod Altered
pub mod Codec
pub mod Turn
pub mod Made
pub mod Unique
pub mod Steps
