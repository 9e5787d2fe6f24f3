-- The definitions of this crate, by file.
pub mod IdleLogs
pub mod Laws
pub mod Sizes
pub mod Merging
pub mod GateLogs
pub mod Turns
pub mod Roles
pub mod Steps
pub mod WorkerPools
pub mod Same
pub mod Makers
pub mod Ends
