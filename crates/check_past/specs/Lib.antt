-- The definitions of this crate, by file.
pub mod Asked
pub mod JournalStates
pub mod PassedFields
pub mod Passing
pub mod Ranks
