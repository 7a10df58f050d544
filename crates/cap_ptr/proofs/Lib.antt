pub mod Objects
pub mod Pads
pub mod NearObjects
pub mod Answers
