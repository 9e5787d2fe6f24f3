-- The definitions of this crate, by file.
pub mod AttemptRoom
pub mod SourceRoom
pub mod Ranged
