mod Examples
pub mod Bytes
pub mod Frames
pub mod Packed
pub mod Pointers
pub mod Trees
pub mod Paths
pub mod Verdicts
pub mod Canonical
pub mod Disjoint
pub mod Strict
pub mod ProofNames
pub mod Lemmas
