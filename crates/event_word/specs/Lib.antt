-- The definitions of this crate, by file.
pub mod Looks
pub mod Steps
pub mod Histories
pub mod Counting
pub mod Seats
pub mod Lists
