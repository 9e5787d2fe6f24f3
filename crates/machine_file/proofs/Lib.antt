-- The lemmas of this crate.
mod Keeping
mod KeptAnswers
mod KeptLinks
mod Tying
pub mod Cycling
pub mod Replying
pub mod Passed
pub mod Machined
pub mod Sheets
pub mod Rising
