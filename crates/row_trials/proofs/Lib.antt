-- The lemmas of this crate, by file.
pub mod AddedLink
pub mod Firsts
pub mod Ones
