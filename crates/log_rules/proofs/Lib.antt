-- The lemmas of this crate, by file.
pub mod Callbacks
pub mod Devices
pub mod Facts
pub mod Inside
pub mod Judging
pub mod RulesAtRows
pub mod Legal
pub mod Makers
pub mod Making
pub mod Quiet
pub mod Rows
pub mod Scripts
pub mod Turns
pub mod Work
