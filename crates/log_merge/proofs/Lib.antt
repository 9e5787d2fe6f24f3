-- The lemmas of this crate, by file.
pub mod Orders
pub mod Placing
pub mod Reading
mod Rising
pub mod Sorts
