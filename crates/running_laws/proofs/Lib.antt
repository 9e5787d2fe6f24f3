-- The lemmas of this crate.
pub mod Lists
pub mod Known
pub mod Invariant
pub mod Rising
pub mod Turns
pub mod Calls
pub mod Firsts
pub mod Ends
pub mod Asked
pub mod Few
mod GoingActs
pub mod GoingBursts
mod GoingLanding
mod GoingOn
mod GoingReports
pub mod GoingSwapped
mod GoingTasks
pub mod SerialNotes
pub mod SerialBooks
pub mod SerialPlans
pub mod SerialOrder
pub mod SerialClimbs
pub mod SerialCalls
pub mod SerialActs
pub mod SerialWorld
pub mod SerialBursts
pub mod SerialGrowth
