-- The lemmas of this crate.
pub mod AddedEnds
pub mod Uncounted
mod Marking
mod LinkIndexes
