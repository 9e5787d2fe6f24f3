-- The definitions of this crate, by file.
pub mod AnswerKeys
pub mod CallerFields
pub mod Calling
pub mod Classes
pub mod SourceStates
pub mod Owing
pub mod ActorRows
pub mod PlanFields
