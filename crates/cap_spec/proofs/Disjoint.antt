-- Messages of which no word is used twice.
pub mod Places
pub mod Overlaps
pub mod Bounds
