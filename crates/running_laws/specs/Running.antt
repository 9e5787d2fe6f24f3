-- A run of a machine, as far as it has come: its journal and its sources' histories, in lists of their own (own: Linux keeps no such log).
use Rattle.std.specs.Prelude.{◌≡◌, ◌≤◌, ◌<◌, ◌+◌, ◌*◌, ℕ, zero, suc, true, false, List, [], ◌∷◌, length, map, reverse, Some, slice_get, slice_index_or}
use Rattle.sleep_model.specs.declared.entry.Actor.{Actor}
use Rattle.sleep_model.specs.declared.entry.Entry.{Entry}
use Rattle.sleep_model.specs.declared.entry.JournalEntry.{JournalEntry}
use Rattle.sleep_model.specs.declared.entry.SourceEntry.{SourceEntry}
use Rattle.sleep_model.specs.declared.machine.Machine.{Machine}
use Rattle.sleep_model.specs.declared.machine.SourceCall.{SourceCall}
use Rattle.sleep_model.specs.declared.word.Stamp.{Stamp}
use Rattle.sleep_model.specs.Accepted.{IsAccepted}
use Rattle.sleep_model.specs.Calls.{calls_of, made, note}
use Rattle.sleep_model.specs.Merge.{of_source}
use Rattle.sleep_model.specs.Numbers.{time_of}
use Rattle.sleep_model.specs.Path.{is_same}
use Rattle.sleep_state.specs.JournalRooms.{entries}
use Rattle.sleep_core.specs.Cores.{IsActor}
use Rattle.sleep_script.specs.Jobs.{IsJobOf, JobState}
use Rattle.wakeup_source.specs.SourceStates.{IsSettled, SourceState}
use Rattle.end_laws.specs.Moments.{ExpiriesAreBounded}
use Rattle.room_laws.specs.Ranged.{is_ranged_entry}
use Rattle.log_merge.specs.Remainders.{unstamped}
use Rattle.run_laws.specs.Acts.{Made}
use Rattle.run_laws.specs.Called.{knows}
use Rattle.run_laws.specs.Invariant.{AllOf, EachJump, RunInvariant}
use Rattle.run_laws.specs.Seated.{IsFresh}
use Rattle.run_laws.specs.Turned.{newest_stamp}

-- ---- the sources

-- the entries of source s among these sources, the newest first
abbrev pub of_sources : List SourceState → ℕ → List JournalEntry
of_sources [] s = []
of_sources (x ∷ sources) zero = map of_source x.past
of_sources (x ∷ sources) (suc s) = of_sources sources s

-- the same without their stamps
abbrev pub histories : List SourceState → ℕ → List Entry
histories sources s = unstamped (of_sources sources s)

-- how many entries these sources have
abbrev pub source_entry_count : List SourceState → ℕ
source_entry_count [] = 0
source_entry_count (source ∷ sources) = length source.past + source_entry_count sources

-- how many entries were made in all
abbrev pub entry_count : List JournalEntry → List SourceState → ℕ
entry_count journal sources = length journal + source_entry_count sources

-- the history of each, the oldest entry first
abbrev pub journal_histories : List SourceState → List (List SourceEntry)
journal_histories sources = map (λ s. reverse s.past) sources

-- a source has its number, is between calls, and last knew the tick of its newest entry
pub record IsSourceOf (s : ℕ) (source : SourceState) : Type 0 where
  pub number : source.id ≡ s
  pub settled : IsSettled source
  pub fresh : IsFresh source

-- so has each of a machine's sources, autosleep's last
pub record AreSources (m : Machine) (sources : List SourceState) : Type 0 where
  pub count : length sources ≡ length m.sources + 1
  pub each : (s : ℕ) (none : SourceState) → s < length sources → IsSourceOf s (slice_index_or sources s none)

-- ---- the jobs

-- how many calls on sources an actor has made
abbrev pub calls_made : Machine → List SourceState → Actor → ℕ
calls_made m sources who = made (length m.sources + 1) (histories sources) who

-- the call comes next of that actor's
abbrev pub CallsNext : Machine → List JournalEntry → List SourceState → Actor → ℕ → SourceCall → Type 0
CallsNext m journal sources who s call =
    slice_get (calls_of m who (entries journal)) (calls_made m sources who) ≡ Some (note s call)

-- each actor's job has the state that the entries so far leave it in
abbrev pub AreJobs : Machine → List JournalEntry → List SourceState → (Actor → JobState) → Type 0
AreJobs m journal sources jobs =
    (who : Actor) → IsActor m who → IsJobOf m who (entries journal) (calls_made m sources who) (jobs who)

-- one actor's job is another, and the other actors' are as they were
pub record IsWith (m : Machine) (old new : Actor → JobState) (who : Actor) (job : JobState) : Type 0 where
  pub same : new who ≡ job
  pub others : (other : Actor) → IsActor m other → is_same who other ≡ false → new other ≡ old other

-- ---- a run

-- what was made so far, and by whom
abbrev pub made_so : List JournalEntry → List SourceState → (Actor → List JournalEntry) → Made
made_so journal sources own = record { journal = journal; of = of_sources sources; own = own }

-- each actor's last stamp knows its own entries and each jump
pub record FloorsKnow (floors : Actor → Stamp) (made : Made) : Type 0 where
  pub own : (who : Actor) → knows (floors who) (made.own who) ≡ true
  pub jumps : (who : Actor) → EachJump (λ jump. knows (floors who) (jump ∷ []) ≡ true) made.journal

-- one actor's last stamp is another, and the other actors' are as they were
pub record OneStampChanges (old new : Actor → Stamp) (who : Actor) (stamp : Stamp) : Type 0 where
  pub same : new who ≡ stamp
  pub others : (other : Actor) → is_same who other ≡ false → new other ≡ old other

-- no tick is above the number of entries: of the newest entry of the journal and of each source, of what each job last knew, and each actor
pub record AreLow
    (m : Machine) (journal : List JournalEntry) (sources : List SourceState) (jobs : Actor → JobState)
    (floors : Actor → Stamp) : Type 0 where
  pub newest : (newest_stamp journal).tick ≤ entry_count journal sources
  pub of_each : (s : ℕ) → (newest_stamp (of_sources sources s)).tick ≤ entry_count journal sources
  pub of_jobs : (who : Actor) → IsActor m who → (jobs who).floor.tick ≤ entry_count journal sources
  pub of_actors : (who : Actor) → (floors who).tick ≤ entry_count journal sources

-- time has come no further than a day for each entry of the journal, and each event in progress ends at most a day from now
pub record IsBounded (journal : List JournalEntry) (sources : List SourceState) : Type 0 where
  pub time : time_of (entries journal) ≤ length journal * 86400000
  pub expiries : ExpiriesAreBounded (entries journal) (histories sources)

-- the invariant of a run, between turns: all that is known of what was made, sources that are between calls, jobs in the states that the
-- run leaves them in, the last stamp of each actor, and how far ticks and time have come
pub record IsGoing
    (m : Machine) (journal : List JournalEntry) (sources : List SourceState) (jobs : Actor → JobState)
    (floors : Actor → Stamp) : Type 0 where
  pub accepted : IsAccepted m
  pub own : Actor → List JournalEntry
  pub invariant : RunInvariant m (made_so journal sources own)
  pub sources_are : AreSources m sources
  pub jobs_are : AreJobs m journal sources jobs
  pub floors_know : FloorsKnow floors (made_so journal sources own)
  pub shown : AllOf (λ e. is_ranged_entry m e.entry) (made_so journal sources own)
  pub low : AreLow m journal sources jobs floors
  pub near : IsBounded journal sources

-- with one worker all actors know one stamp, the last that anybody made
abbrev pub IsRunning :
    Machine → List JournalEntry → List SourceState → (Actor → JobState) → Stamp → Type 0
IsRunning m journal sources jobs floor = IsGoing m journal sources jobs (λ who. floor)
