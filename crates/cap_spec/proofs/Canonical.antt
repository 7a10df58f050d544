-- The canonical form.
pub mod Trimming
pub mod TreeMeasures
pub mod TrimmedMeasures
pub mod TrimmedTrees
pub mod Sizes
pub mod ElementPlaces
pub mod Offsets
pub mod Placing
pub mod PointerFields
pub mod Laying
pub mod Layouts
pub mod LayoutWords
pub mod Copies
