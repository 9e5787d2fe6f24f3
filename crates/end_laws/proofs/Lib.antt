-- The lemmas of this crate, by file.
pub mod Attempts
pub mod Bounding
pub mod Counting
pub mod Dozing
pub mod Exits
pub mod Freezing
pub mod Lasting
pub mod Makers
pub mod Moments
pub mod Nearby
pub mod Stepping
pub mod Waking
pub mod Working
