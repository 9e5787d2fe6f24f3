-- The definitions of this crate.
pub mod AtPoints
pub mod Prepares
