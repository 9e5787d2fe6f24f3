-- The lemmas of this crate, by file.
pub mod Agreeing
pub mod Digits
pub mod Ending
pub mod FirstLine
pub mod Forms
