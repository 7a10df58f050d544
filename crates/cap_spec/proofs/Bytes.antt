-- Lists, and words in bytes.
pub mod Lists
pub mod WordBytes
pub mod Plain
