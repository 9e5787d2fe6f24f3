-- The lemmas of this crate, by file.
mod Idling
