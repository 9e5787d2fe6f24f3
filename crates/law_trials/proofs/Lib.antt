-- The lemmas of this crate, by file.
pub mod MergeShown
pub mod Passed
pub mod RunShown
pub mod Tabled
