-- The lemmas of this crate, by file.
pub mod Answering
pub mod Calling
pub mod Nexting
pub mod Owing
pub mod Agreement
