-- The definitions of this crate.
pub mod DeviceStates
pub mod MomentFields
pub mod Paths
pub mod JournalRooms
pub mod PositionFields
pub mod Sleepers
pub mod TaskFields
pub mod TaskStates
pub mod Trees
