pub mod Entries
pub mod Tests
