-- The definitions of this crate, by file.
pub mod Invariant
pub mod Refusal
pub mod Requests
