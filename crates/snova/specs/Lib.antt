pub mod Interface
pub mod InNumbers
pub mod Unique
pub mod LengthCalls
pub mod Responses
pub mod BookCalls
