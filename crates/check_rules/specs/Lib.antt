-- The definitions of this crate, by file.
pub mod Judging
pub mod Next
pub mod Owing
pub mod Places
pub mod Quiet
pub mod Rows
