-- The lemmas of this crate.
pub mod Adding
pub mod Reports
pub mod Taking
pub mod Worlds
