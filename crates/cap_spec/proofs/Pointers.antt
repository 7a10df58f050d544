-- What a pointer word leads to, or why it leads to no node.
pub mod Conditions
pub mod Following
pub mod Shapes
