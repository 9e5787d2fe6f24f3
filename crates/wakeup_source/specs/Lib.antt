-- The definitions of this crate.
pub mod SourceHistoryFields
pub mod SourceHistories
pub mod Called
pub mod SourceStates
pub mod Tallies
pub mod Shown
