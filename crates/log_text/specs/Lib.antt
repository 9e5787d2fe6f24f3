-- The definitions of this crate, by file.
pub mod MachineNames
pub mod Cutting
pub mod Faults
pub mod Framed
pub mod Grammar
pub mod Named
pub mod Passing
pub mod Reading
pub mod Referred
pub mod Ready
pub mod Words
