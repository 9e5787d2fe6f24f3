-- The definitions of this crate, by file.
pub mod Graphs
pub mod Visited
