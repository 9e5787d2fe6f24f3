-- The lemmas of this crate, by file.
pub mod Looking
pub mod Totals
pub mod Histories
pub mod Invariance
pub mod Seating
