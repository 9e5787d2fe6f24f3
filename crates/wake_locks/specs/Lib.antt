-- The definitions of this crate.
pub mod Counted
pub mod Expiries
pub mod LockFields
pub mod Locks
pub mod LockStatuses
pub mod Texts
pub mod Writes
