-- The lemmas of this crate.
pub mod Looks
pub mod Trees
pub mod Placing
pub mod Pairing
mod Registering
pub mod Answered
pub mod Freshly
pub mod Grouping
pub mod Alternatives
pub mod ScriptsValid
pub mod LinksValid
pub mod AnswersValid
pub mod Accepted
pub mod Each
pub mod Fitted
pub mod FittedFile
pub mod Marked
pub mod Worded
pub mod Namings
pub mod Counting
