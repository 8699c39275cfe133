pub mod System
pub mod Dot
pub mod Step
pub mod Answer
pub mod Row
pub mod Frame
pub mod Progress
