-- The definitions of this crate.
pub mod BurstsOf
pub mod JobsFields
pub mod JobsOf
pub mod RunFields
pub mod Runs
pub mod TasksOf
pub mod Tries
pub mod Waits
