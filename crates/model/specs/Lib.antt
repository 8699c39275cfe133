pub mod Answered
pub mod Accepted
pub mod Sentences
pub mod Chain
pub mod Ways
pub mod Unique
