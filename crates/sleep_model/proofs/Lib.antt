-- The lemmas of this crate.
pub mod Acyclic
pub mod Changing
pub mod Children
pub mod FirstOccurrences
pub mod Dependents
pub mod Journals
pub mod Ordering
pub mod Padding
pub mod Paths
pub mod Searches
pub mod Walks
pub mod Interleaving
