pub mod Lists
pub mod WritingAll
