-- The lemmas of this crate, by file.
mod Checking
pub mod Fitting
pub mod Judging
pub mod Rows
pub mod Linked
pub mod Trying
