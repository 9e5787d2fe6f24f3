-- The lemmas of this crate.
pub mod Indexing
mod Scripted
