-- The definitions of this crate.
pub mod CallPlans
pub mod PlanFields
pub mod Plans
