-- The lemmas of this crate, by file.
pub mod Cutting
mod Gathering
mod Merging
mod Parting
mod Streaming
