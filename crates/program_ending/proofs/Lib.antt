-- The lemmas of this crate.
pub mod Saying
pub mod CommandEndings
