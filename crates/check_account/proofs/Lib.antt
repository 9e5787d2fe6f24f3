-- The lemmas of this crate, by file.
pub mod Following
pub mod Fronts
pub mod Unasked
pub mod Unmoved
