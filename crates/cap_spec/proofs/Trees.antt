-- The one tree that a pointer word denotes, and what is read of it.
pub mod Finding
pub mod OneTree
pub mod Charges
pub mod Outcomes
pub mod DenotedTrees
pub mod ReadingBack
pub mod WordsRead
pub mod Readings
