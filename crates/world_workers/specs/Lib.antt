-- The definitions of this crate.
pub mod Tries
pub mod Workers
pub mod Bursts
pub mod Opened
pub mod Refused
