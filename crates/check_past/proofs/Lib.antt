-- The lemmas of this crate, by file.
pub mod Naming
pub mod Passing
pub mod Ranking
pub mod AtIndex
pub mod Answers
