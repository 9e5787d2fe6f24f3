-- The definitions of this crate.
pub mod Objects
pub mod ObjectFields
pub mod Closed
