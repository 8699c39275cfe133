pub mod Book
pub mod Reading
pub mod Fields
pub mod Cursor
pub mod Going
pub mod Salvage
pub mod Spoiled
pub mod Kept
