pub mod Facts
pub mod ZeroLinear
pub mod EverySet
