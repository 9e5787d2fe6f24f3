-- The definitions of this crate, by file.
pub mod Endings
pub mod Input
pub mod Judging
pub mod Stats
pub mod Taking
pub mod Telling
