-- The lemmas of this crate, by file.
pub mod Choosing
pub mod Freezing
