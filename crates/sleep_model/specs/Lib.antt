-- Every definition of what sleep is. They are about one list of entries, `past`, the newest first; no code is mentioned.
--
-- Reading order:
--   Legal      what a log is, and when it is over
--   Due        the one entry that an actor may make next
--   Attempt    what the maker of an attempt makes at each stage
--   Table      which stage follows, and which one a failure leads to
--   PhaseStates the state of a device in each pair of phases
--   Devices    what the walks and the devices make
--   Order      which devices are below and above a device
--   Guard      the saved count, and what is pending
--   Sources    what a call on a wakeup source makes
--   Steps      what a task makes
--   Laws       what holds of every legal log
--
-- The same rules a second time, each by itself, are in rule_definitions.
--
-- One entry, followed down. The log of a parent p and its child c has the line `0 0/0/0 task:w begin suspend p`.
--   IsLegalLog asks IsLegal, which asks of each entry of the journal a JournalStep: the entry is `due` of its actor.
--   due     task w makes the open attempt (`maker`), so what is due is `attempt_due`.
--   attempt_due   the stage under way is `Downs Suspend`: the last entry of a stage before it was `done prepare 0` (`stage_after`).
--   stage_due     at `Downs p` what is due is `down_due m past now p`.
--   down_due      there is no error, and the last device of the order that suspend has not taken is p (`next_down`): c has been taken.
--   take_down     p is synchronous, and each device below p, only c, is done with suspend (`waits_for_subordinates`): `end suspend c 0` comes before.
--   taken         no wakeup is pending, and p is not direct-complete: `Begin Suspend p`.

pub mod Accepted
pub mod Answers
pub mod Attempt
pub mod Autosleep
pub mod Calls
pub mod Devices
pub mod Due
pub mod Fits
pub mod Freezer
pub mod Guard
pub mod JournalFields
pub mod Journals
pub mod Laws
pub mod Legal
pub mod Links
pub mod Lock
pub mod Marks
pub mod Merge
pub mod NameBytes
pub mod Notifiers
pub mod Numbers
pub mod Order
pub mod EntryClasses
pub mod Path
pub mod Places
pub mod ReaderFields
pub mod Runtime
pub mod Scripts
pub mod Positions
pub mod Sources
pub mod PhaseStates
pub mod Steps
pub mod Table
pub mod Tasks
pub mod Text
pub mod Walk
pub mod Word
pub mod Interleaved
