-- The definitions of this crate.
pub mod FreezerFields
pub mod Freezers
pub mod Fronts
pub mod Waits
