-- The lemmas of this crate.
pub mod Agreeing
mod Calls
pub mod Digits
mod Expired
pub mod Placed
mod Rows
mod Sooner
pub mod Timely
mod Written
