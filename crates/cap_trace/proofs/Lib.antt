mod Branches
mod Coming
mod Common
mod Filling
pub mod Named
mod NullRuns
mod Nulls
pub mod Numbering
mod Objects
mod Onward
pub mod Returns
pub mod Sharing
pub mod Traceable
