-- The definitions of this crate.
pub mod Endings
pub mod Streams
pub mod CommandEndings
pub mod Texts
