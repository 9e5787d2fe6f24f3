-- The lemmas of this crate, by file.
pub mod Races
pub mod Over
pub mod Merges
pub mod Placing
pub mod Booking
pub mod Alternate
pub mod Filling
pub mod Premises
pub mod Histories
pub mod Stepping
pub mod Acting
pub mod Crewing
pub mod Gathering
pub mod Leaving
pub mod Ending
pub mod Starting
