-- The lemmas of this crate, by file.
pub mod Decimals
pub mod Buffering
pub mod Lengths
pub mod DeviceLines
