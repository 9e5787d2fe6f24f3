-- The lemmas of this crate.
pub mod Acting
pub mod Going
pub mod Pools
pub mod Opening
pub mod Closing
pub mod Bursting
