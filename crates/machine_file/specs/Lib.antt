-- The definitions of this crate.
pub mod Spelling
pub mod Sound
pub mod Reading
pub mod Refusing
pub mod Stopping
pub mod Writing
