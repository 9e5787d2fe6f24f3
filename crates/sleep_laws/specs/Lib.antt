-- The definitions of this crate.
pub mod Ends
pub mod Laws
pub mod Linked
