pub mod Sets
pub mod Bounds
pub mod Numbers
pub mod Rooms
pub mod Unique
pub mod Table
