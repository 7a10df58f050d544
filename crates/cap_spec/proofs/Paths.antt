-- Paths to the nodes of a message, and preorder.
pub mod Walks
pub mod Arrivals
pub mod Preorder
pub mod Cycles
pub mod PathLists
pub mod PathCounts
pub mod PathCosts
pub mod Depths
pub mod Deepest
pub mod PathTexts
