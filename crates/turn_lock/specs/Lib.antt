-- The definitions of this crate.
pub mod Bookings
pub mod Locks
pub mod Passes
pub mod Passing
pub mod Lending
