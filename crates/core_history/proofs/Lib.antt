-- The lemmas of this crate.
mod Boarded
mod Counted
pub mod Freezing
mod Parting
mod Passing
