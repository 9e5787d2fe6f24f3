-- The definitions of this crate, by file.
pub mod Attempts
pub mod Bounds
pub mod Exits
pub mod Makers
pub mod Moments
pub mod Waking
