pub mod Buffered
pub mod Filling
pub mod Pieces
pub mod PlainEncoding
pub mod Known
pub mod Turns
pub mod WholeWords
