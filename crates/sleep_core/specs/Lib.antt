-- The definitions of this crate.
pub mod CoreFields
pub mod Cores
pub mod ReportFields
pub mod Reports
pub mod Seen
pub mod Stages
pub mod Steps
pub mod Turned
