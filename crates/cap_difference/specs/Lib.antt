pub mod Reasons
pub mod Differences
pub mod ReadWords
pub mod Searching
