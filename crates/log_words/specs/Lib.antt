-- The definitions of this crate, by file.
pub mod Front
pub mod Verbs
