-- The lemmas of this crate, by file.
pub mod Sources
pub mod SameNames
pub mod Cuts
pub mod NumbersBack
pub mod Finds
pub mod WordsBack
pub mod WordsInjective
pub mod KindsBack
pub mod EntriesBack
pub mod StatsBack
pub mod FirstLines
pub mod Readable
pub mod Loops
pub mod Finished
pub mod Clean
pub mod TextLines
pub mod NextEntry
pub mod OneLog
pub mod NoBadLine
pub mod ReadBack
pub mod Passed
pub mod Lists
pub mod Pieces
pub mod Same
pub mod OtherVerbs
mod OtherKinds
