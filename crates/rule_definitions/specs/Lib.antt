-- The rules of a log, each by itself: what each of them asks of an entry, by the entries before it and the machine.
--
-- Numbers    the word and the time that it carries
-- Attempts   the number and the guard of an attempt
-- Reads      reads and saves of the count, and writes to the state and to autosleep
-- Walk       the phases of devices: who is next, what has to wait, what is answered
-- Skip       which devices a phase passes over
-- Runtime    requests for a runtime status
-- Owed       undoing only what is owed
-- Freezer    who freezes, and how a freeze ends
-- Path       the table of an attempt
-- Answers    what phases and attempts answer
-- Restored   nothing is owed once an attempt is over
-- Steps      each actor's own steps
-- Enabled    who may go on while the machine sleeps, what wakes it, and when time jumps
-- Source     a wakeup source's own entries
-- Links      links that are added or set
-- All        all of them, of an entry of the journal
-- Entry      all of them, of any entry
-- Verdict    the first bad line of a log, and the number of the rule that it breaks
-- Law        that what is due obeys them, and what obeys them is due

pub mod All
pub mod Answers
pub mod Attempts
pub mod Enabled
pub mod Entry
pub mod Freezer
pub mod Law
pub mod Links
pub mod Numbers
pub mod Owed
pub mod Path
pub mod Questions
pub mod Reads
pub mod Restored
pub mod Runtime
pub mod Skip
pub mod Source
pub mod Steps
pub mod Verdict
pub mod Walk
