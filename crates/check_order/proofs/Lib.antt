-- The lemmas of this crate, by file.
mod Making
mod Ordering
mod Placing
mod Tabling
mod Tying
mod Walking
