pub mod Sponge
pub mod LaneBytes
pub mod Padding
pub mod Feed
pub mod FeedLaws
pub mod Bytes
pub mod Strings
pub mod Unique
