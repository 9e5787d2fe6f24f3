-- The definitions of this crate.
pub mod NoteFields
pub mod Roots
pub mod Calling
pub mod Objects
pub mod Outcomes
pub mod ObjectLists
pub mod Acts
pub mod Bursts
