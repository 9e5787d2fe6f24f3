-- The lemmas of this crate.
mod CallsPlanned
mod Planned
mod WithoutCalls
