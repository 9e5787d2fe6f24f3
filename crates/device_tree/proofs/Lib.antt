-- The lemmas of this crate, by file.
mod Invariant
mod Names
