-- The definitions of this crate.
pub mod Look
pub mod View
