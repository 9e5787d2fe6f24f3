-- The definitions of this crate.
pub mod Apart
pub mod Fitting
pub mod Merging
pub mod Owned
pub mod Acts
pub mod Called
pub mod Invariant
pub mod Jobs
pub mod ClosedOver
pub mod Passes
pub mod Seated
pub mod Turned
