pub mod Within
pub mod Reading
pub mod Events
pub mod Cuts
pub mod Shown
pub mod Seeks
