-- The lemmas of this crate.
mod Going
