-- The lemmas of this crate.
mod Naming
pub mod Written
