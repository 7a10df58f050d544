pub mod Appends
pub mod Dumping
pub mod Nodes
pub mod Paging
pub mod SegmentLines
pub mod Writing
