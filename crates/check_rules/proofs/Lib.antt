-- The lemmas of this crate, by file.
pub mod Counting
pub mod Freezing
pub mod Judging
pub mod Jumping
pub mod Owning
pub mod Quiet
pub mod Resting
pub mod Sourcing
pub mod Walking
