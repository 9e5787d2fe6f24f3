-- The definitions of this crate, by file.
pub mod Laws
