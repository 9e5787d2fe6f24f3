-- The definitions of this crate, by file.
pub mod Answers
pub mod Command
pub mod Endings
pub mod Lines
pub mod Steps
pub mod TextAnswers
pub mod Verbs
