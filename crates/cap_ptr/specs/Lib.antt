pub mod Forms
pub mod Shapes
pub mod Reaching
pub mod Rows
pub mod Levels
pub mod UsedPlaces
