-- The lemmas of this crate.
pub mod Calling
mod Growing
mod Linked
mod FittingPhases
mod Reporting
mod Positioned
pub mod Stopped
mod Turning
mod Walks
mod Working
