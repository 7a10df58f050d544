pub mod Digits
pub mod JobEnds
pub mod Marking
pub mod NamedFiles
pub mod PuttingMarks
pub mod SameMarks
