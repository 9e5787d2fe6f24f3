-- The definitions of this crate, by file.
pub mod Endings
pub mod Lines
