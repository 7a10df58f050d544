pub mod Hexes
pub mod Numbers
