-- The definitions of this crate.
pub mod Counting
pub mod Linked
pub mod States
