-- The definitions of this crate, by file.
pub mod AtPoints
pub mod BoardFields
pub mod Boards
pub mod Counts
pub mod Cursors
pub mod Pairs
pub mod Picks
pub mod Sides
pub mod Walks
