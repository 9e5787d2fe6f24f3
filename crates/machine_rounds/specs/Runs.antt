-- A run of a machine, as far as it has come.
use Rattle.std.specs.Prelude.{◌≡◌, ◌≤◌, ◌<◌, ◌+◌, ◌⊎◌, Bool, true, false, not, ◌&&◌, ℕ, List, length, reverse, Option, Some, None, Result, Ok, Err}
use Rattle.std.specs.List.{list_any}
use Rattle.sleep_model.specs.declared.entry.Actor.{Actor}
use Rattle.sleep_model.specs.declared.entry.Actor.TheVariants as actor
use Rattle.sleep_model.specs.declared.entry.JournalEntry.{JournalEntry}
use Rattle.sleep_model.specs.declared.log.Log.{Log}
use Rattle.sleep_model.specs.declared.log.LogEnd.{LogEnd}
use Rattle.sleep_model.specs.declared.log.LogEnd.TheVariants as end
use Rattle.sleep_model.specs.declared.machine.Machine.{Machine}
use Rattle.sleep_model.specs.declared.word.EventNow.{EventNow}
use Rattle.sleep_model.specs.declared.word.Stamp.{Stamp}
use Rattle.sleep_model.specs.Calls.{calls_due}
use Rattle.sleep_model.specs.Due.{have_all_exited}
use Rattle.sleep_model.specs.Fits.{IsWritable}
use Rattle.sleep_model.specs.Laws.{Laws, GuardedSleep}
use Rattle.sleep_model.specs.Legal.{IsLegalLog, IsFinishedLog, IsStuckLog, is_enabled, is_finished, is_idle, next_time, none_enabled, waiting}
use Rattle.sleep_model.specs.Merge.{is_word}
use Rattle.sleep_model.specs.EntryClasses.{journal}
use Rattle.sleep_model.specs.Path.{maker}
use Rattle.sleep_model.specs.Places.{places}
use Rattle.sleep_model.specs.Sources.{most_entries}
use Rattle.sleep_model.specs.Word.{position}
use Rattle.event_word.specs.Seats.{WordToken, floor_of, looked_of}
use Rattle.sleep_state.specs.JournalRooms.{entries}
use Rattle.sleep_core.specs.Cores.{IsActor}
use Rattle.wakeup_source.specs.SourceStates.{SourceState}
use Rattle.sleep_script.specs.Jobs.{JobState}
use Rattle.running_laws.specs.Running.{IsRunning, calls_made, entry_count, histories, journal_histories, of_sources}
use Rattle.end_laws.specs.Attempts.{attempts_end}
use Rattle.end_laws.specs.Waking.{events_wake_first, time_goes_forward}
use Rattle.run_objects.specs.Closed.{IsClosedTable}
use Rattle.machine_rounds.specs.declared.after_idle_round.EndOfRun.{EndOfRun}
use Rattle.machine_rounds.specs.declared.after_idle_round.EndOfRun.TheVariants.{Finished, Stuck}
use Rattle.world_workers.specs.declared.fault.RunFault.{RunFault}
use Rattle.world_workers.specs.declared.fault.RunFault.TheVariants as fault

-- the machine of a run, its journal and its sources so far, the seat by which it looks at the event word, and the last stamp that anybody
-- made
pub record RunState : Type 0 where
  pub machine : Machine
  pub journal : List JournalEntry
  pub sources : List SourceState
  pub seat : WordToken
  pub floor : Stamp

-- how many entries were made
abbrev pub entries_made : RunState → ℕ
entries_made run = entry_count run.journal run.sources

-- a run goes on, as each actor's job does
pub record IsGoingOn (run : RunState) : Type 0 where
  pub jobs : Actor → JobState
  pub running : IsRunning run.machine run.journal run.sources jobs run.floor

-- nothing was made: at most the word was looked at
pub record MadeNothing (old new : RunState) : Type 0 where
  pub machine : new.machine ≡ old.machine
  pub journal : new.journal ≡ old.journal
  pub sources : new.sources ≡ old.sources
  pub floor : new.floor ≡ old.floor

-- the word was looked at last, at or after all that was made
pub record IsLastLook (run : RunState) (word : EventNow) : Type 0 where
  pub seen : list_any (is_word word) (looked_of run.seat) ≡ true
  pub newest : position word ≡ floor_of run.seat
  pub high : run.floor.pos ≤ position word

-- the calls of a machine may fill a source: its history, which has room for `most_entries`, may come to have room for fewer than four,
-- which a call and its expiry need (own)
abbrev pub MayFillSource : Machine → ℕ → Type 0
MayFillSource m s = (s ≤ length m.sources) × (most_entries < places m s + 4)

-- why a run gives nothing: a source is full, or memory ran out
abbrev pub Fails : Machine → RunFault → Type 0
Fails m (fault.SourceFull s) = MayFillSource m s
Fails m fault.Mem = Unit {0}

-- the table of the event word was closed, and has all steps of the run
pub record IsClosed (run : RunState) : Type 0 where
  pub on : IsGoingOn run
  pub closed_over : IsClosedTable (looked_of run.seat) (reverse run.journal) (journal_histories run.sources)

-- a call on that source was refused: its history has fewer than four places left, or memory ran out
abbrev pub IsRefused : RunState → RunFault → Type 0
IsRefused run (fault.SourceFull s) =
    (s ≤ length run.machine.sources) × (most_entries < length (of_sources run.sources s) + 4)
IsRefused run fault.Mem = Unit {0}

-- after a try, entries were made, or nothing has changed
abbrev pub AfterTry : RunState → RunState → Result Bool RunFault → Type 0
AfterTry old new (Ok true) = entries_made old < entries_made new
AfterTry old new (Ok false) = MadeNothing old new
AfterTry old new (Err fault) = IsRefused new fault

-- nobody can make anything that sees that word
abbrev pub nobody_enabled : RunState → EventNow → Bool
nobody_enabled run word = is_idle run.machine (entries run.journal) (histories run.sources) word

-- no script can make anything that sees that word, nor the autosleep work, nor a device
abbrev pub actors_idle : RunState → EventNow → Bool
actors_idle run word =
    none_enabled run.machine (entries run.journal) (histories run.sources) word actor.Script (length run.machine.actors)
    && not (is_enabled run.machine (entries run.journal) (histories run.sources) word actor.Auto)
    && none_enabled run.machine (entries run.journal) (histories run.sources) word actor.Dev (length run.machine.devices)

-- an actor of the machine can make something that sees that word
abbrev pub CanGoOn : RunState → EventNow → Actor → Type 0
CanGoOn run word who =
    IsActor run.machine who × (is_enabled run.machine (entries run.journal) (histories run.sources) word who ≡ true)

-- after the first who can go on was looked for, by that word: it made an entry, or nobody can and nothing has changed
abbrev pub AfterGoing : RunState → RunState → EventNow → Result Bool RunFault → Type 0
AfterGoing old new word (Ok true) = entries_made old < entries_made new
AfterGoing old new word (Ok false) = (new ≡ old) × (nobody_enabled new word ≡ true)
AfterGoing old new word (Err fault) = IsRefused new fault

-- the run is over, by that word
abbrev pub is_over : RunState → EventNow → Bool
is_over run word = is_finished run.machine (entries run.journal) (histories run.sources) word

-- nobody goes on, by that word: a script has not exited, no actor can make anything, and no moment is pending
pub record IsHalted (run : RunState) (word : EventNow) : Type 0 where
  pub left : have_all_exited run.machine (entries run.journal) ≡ false
  pub idle : nobody_enabled run word ≡ true
  pub timeless : next_time run.machine (entries run.journal) (histories run.sources) ≡ None

-- the run is quiescent: no attempt is open, and each actor has made the calls on sources that are due
pub record IsQuiescent (run : RunState) : Type 0 where
  pub closed : maker (entries run.journal) ≡ None
  pub made : (who : Actor) → IsActor run.machine who
      → calls_made run.machine run.sources who ≡ calls_due run.machine who (entries run.journal)

-- a run is over: nothing is left to do, or nobody goes on, by a word that was looked at last
abbrev pub IsAtEnd : RunState → EndOfRun → Type 0
IsAtEnd run (Finished word) = IsLastLook run word × (is_over run word ≡ true)
IsAtEnd run (Stuck word) = IsLastLook run word × IsHalted run word

-- after a round that did nothing, somebody who can go on does, or time jumps; else the run is over
abbrev pub IsAfterIdleRound : RunState → RunState → Result (Option EndOfRun) RunFault → Type 0
IsAfterIdleRound old new (Ok None) = entries_made old < entries_made new
IsAfterIdleRound old new (Ok (Some run_end)) = MadeNothing old new × IsAtEnd new run_end
IsAfterIdleRound old new (Err fault) = IsRefused new fault

-- after rounds for as long as each makes entries: the last one did, or there are no fewer entries
abbrev pub AfterRounds : RunState → RunState → Result Bool RunFault → Type 0
AfterRounds old new (Ok true) = entries_made old < entries_made new
AfterRounds old new (Ok false) = entries_made old ≤ entries_made new
AfterRounds old new (Err fault) = IsRefused new fault

-- after n stretches at least n entries more were made, or the run is over
abbrev pub AfterStretches : ℕ → RunState → RunState → Result (Option EndOfRun) RunFault → Type 0
AfterStretches n old new (Ok None) = entries_made old + n ≤ entries_made new
AfterStretches n old new (Ok (Some run_end)) = IsAtEnd new run_end
AfterStretches n old new (Err fault) = IsRefused new fault

-- the run is over, and ends so, by a word that was looked at last
abbrev pub EndsSo : RunState → LogEnd → Type 0
EndsSo run end.Finished = (word : EventNow) × IsLastLook run word × (is_over run word ≡ true)
EndsSo run (end.Stuck those) =
    (word : EventNow) × IsLastLook run word × IsHalted run word × (those ≡ waiting run.machine (entries run.journal) word)

-- the log of a whole run: it is legal, and over, and so the laws hold of it, and no attempt is open; it has at most 37,585,025 entries; an
-- event wakes a sleeping machine before time passes, time goes forward, and each attempt ends; it fits the machine, so that its text is
-- exact, and if it is stuck names somebody
pub record IsRun (m : Machine) (log : Log) : Type 0 where
  pub legal : IsLegalLog m log
  pub over : (IsFinishedLog m log) ⊎ (IsStuckLog m log)
  pub laws : Laws m (journal (reverse log.entries))
  pub guarded : GuardedSleep (reverse log.entries)
  pub closed : maker (journal (reverse log.entries)) ≡ None
  pub few : length log.entries ≤ 37585025
  pub wakes : events_wake_first (reverse log.entries) ≡ true
  pub forward : time_goes_forward (reverse log.entries) ≡ true
  pub ends : attempts_end log.entries ≡ true
  pub fits : IsWritable m log
