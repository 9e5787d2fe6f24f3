-- The lemmas of this crate.
mod Naming
