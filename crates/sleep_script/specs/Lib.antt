-- The definitions of this crate.
pub mod Generated
pub mod JobFields
pub mod Jobs
