-- The lemmas of this crate.
mod Called
mod Settled
mod Tallied
