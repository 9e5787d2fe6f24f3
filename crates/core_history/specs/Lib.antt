-- The definitions of this crate.
pub mod Components
pub mod Histories
pub mod HistoryFields
pub mod Numbered
