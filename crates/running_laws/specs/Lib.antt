-- The definitions of this crate.
pub mod Running
pub mod Courses
pub mod Preservation
pub mod Serial
