-- The lemmas of this crate, by file.
mod Certifying
mod Chaining
mod Leveling
