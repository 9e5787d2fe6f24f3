-- The lemmas of this crate.
pub mod Digits
pub mod Looks
pub mod MembersNamed
pub mod Reading
pub mod Runs
pub mod Seen
