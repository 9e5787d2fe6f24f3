-- The lemmas of this crate.
mod Fronts
mod Waiting
