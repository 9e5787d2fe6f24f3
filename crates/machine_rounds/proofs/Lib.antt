-- The lemmas of this crate.
mod Quiescent
mod Owing
pub mod RunInBurst
pub mod BurstContents
pub mod Bursting
pub mod Calling
pub mod CameBack
pub mod Fields
pub mod FirstTasks
pub mod JobsChanged
pub mod Numbered
pub mod Idling
pub mod SeatedSources
pub mod Turning
