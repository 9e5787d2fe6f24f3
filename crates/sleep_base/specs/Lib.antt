-- The definitions of this crate.
pub mod Calls
pub mod Cutting
pub mod Digits
pub mod Errno
pub mod Faults
pub mod Streams
pub mod Whole
