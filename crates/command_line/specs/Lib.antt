-- The definitions of this crate, by file.
pub mod Words
pub mod Parses
