-- The lemmas of this crate, by file.
pub mod Counting
pub mod Layouts
pub mod Moved
pub mod Picked
pub mod Indices
pub mod Rested
pub mod Searched
pub mod Stood
pub mod Agreement
pub mod Waiting
