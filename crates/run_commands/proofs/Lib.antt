-- The lemmas of this crate.
mod Filling
mod Generating
mod Writing
