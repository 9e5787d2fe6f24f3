-- The lemmas of this crate, by file.
mod Acyclicly
mod Ends
mod InPlace
mod Invariant
mod Moving
mod ActiveLinks
mod Numbering
mod Refilling
mod Runs
mod Ordered
mod Passing
mod Setting
mod Spreading
mod Tabulating
mod Visiting
mod Walking
