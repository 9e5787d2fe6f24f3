-- The definitions of this crate.
pub mod PlannedAnswers
pub mod Keys
pub mod PlanFields
