-- The definitions of this crate, by file.
pub mod Accounts
pub mod PairStates
pub mod Fronts
