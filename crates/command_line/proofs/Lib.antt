-- The lemmas of this crate, by file.
pub mod Turns
pub mod Named
pub mod Leaves
pub mod Forms
pub mod Numbers
pub mod Readings
pub mod Commands
pub mod Ranges
pub mod IdleWords
