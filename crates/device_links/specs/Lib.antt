-- The definitions of this crate, by file.
pub mod Adds
pub mod Ends
pub mod Invariant
pub mod Linked
pub mod Moves
pub mod Passes
pub mod Rooms
pub mod Spread
pub mod Walks
