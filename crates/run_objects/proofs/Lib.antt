-- The lemmas of this crate.
pub mod Firsts
pub mod Laying
pub mod Machines
pub mod Sources
