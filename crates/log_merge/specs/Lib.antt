-- The definitions of this crate, by file.
pub mod Journals
pub mod Orders
pub mod WithCounts
pub mod Remainders
