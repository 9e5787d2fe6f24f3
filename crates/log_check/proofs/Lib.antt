-- The lemmas of this crate, by file.
mod Adding
mod Ends
mod Entries
mod Next
mod Sources
mod Walking
