-- The lemmas of this crate.
pub mod Drawn
pub mod Following
pub mod Generating
mod Rising
mod Stepped
