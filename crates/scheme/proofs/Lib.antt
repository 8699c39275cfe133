pub mod Composition
pub mod Entries
pub mod KeyLaws
pub mod Verdict
pub mod Oil
pub mod Coefficients
pub mod OwnMatrix
