-- The lemmas of this crate.
pub mod Booking
pub mod Invariance
pub mod NewPasses
pub mod LastPasses
pub mod Listed
