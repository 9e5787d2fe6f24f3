-- The definitions of this crate, by file.
pub mod EntryFields
pub mod LogFields
pub mod Merged
pub mod Slices
