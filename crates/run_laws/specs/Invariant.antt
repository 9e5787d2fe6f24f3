-- The invariant of a run: what is known of all that was made so far, and what follows at the end (own).
use Rattle.std.specs.Prelude.{◌≡◌, ◌+◌, ℕ, Bool, true, false, ◌&&◌, ◌||◌, nat_le, nat_lt, List, [], ◌∷◌, length, map, filter, reverse, slice_index_or, None}
use Rattle.std.specs.List.{list_all}
use Rattle.sleep_model.specs.declared.word.EventNow.{EventNow}
use Rattle.sleep_model.specs.declared.entry.Actor.{Actor}
use Rattle.sleep_model.specs.declared.entry.JournalEntry.{JournalEntry}
use Rattle.sleep_model.specs.declared.entry.SourceEntry.{SourceEntry}
use Rattle.sleep_model.specs.declared.log.Log.{Log}
use Rattle.sleep_model.specs.declared.log.LogEnd.TheVariants.{Finished, Stuck}
use Rattle.sleep_model.specs.declared.machine.Machine.{Machine}
use Rattle.sleep_model.specs.Due.{have_all_exited}
use Rattle.sleep_model.specs.Legal.{IsFinishedLog, IsLegalLog, IsStuckLog, JournalPart, JumpStep, is_finished, is_idle, is_there, next_time, waiting}
use Rattle.sleep_model.specs.Merge.{of_source, next_position}
use Rattle.sleep_model.specs.Numbers.{time_of}
use Rattle.sleep_model.specs.EntryClasses.{EntryClass, Notes, Moves, class_of}
use Rattle.sleep_model.specs.Sources.{is_of, most_entries}
use Rattle.event_word.specs.Steps.{MadeStep}
use Rattle.log_merge.specs.Remainders.{unstamped}
use Rattle.run_laws.specs.Apart.{AreJumps, is_journals}
use Rattle.run_laws.specs.Fitting.{FitApart, are_raised, has_time, is_earlier, is_after_jump, jumps}
use Rattle.run_laws.specs.Merging.{AreLegalApart, IsMergeOf}
use Rattle.run_laws.specs.Acts.{AreSteps, IsNext, Made, MayHave, with_entry}
use Rattle.run_laws.specs.ClosedOver.{IsClosedOver, IsSeenLast}

-- ---- tests of what was made

-- each entry passes, in the journal and of each source
abbrev pub AllOf : (JournalEntry → Bool) → Made → Type 0
AllOf test made = (list_all test made.journal ≡ true) × ((s : ℕ) → list_all test (made.of s) ≡ true)

-- so it is for each jump among these entries
abbrev pub EachJump : (JournalEntry → Type 0) → List JournalEntry → Type 0
EachJump P [] = Unit {0}
EachJump P (e ∷ past) = (jumps e ≡ true → P e) × EachJump P past

-- an entry's stamp is after another's: a greater tick, and no position before the one that the other leaves
abbrev pub is_above : JournalEntry → JournalEntry → Bool
is_above e other = nat_lt other.stamp.tick e.stamp.tick && nat_le (next_position other) e.stamp.pos

-- it is after the newest of these
abbrev pub follows : JournalEntry → List JournalEntry → Bool
follows e [] = true
follows e (last ∷ past) = is_above e last

-- the entries, the newest first, fall
abbrev pub falls : List JournalEntry → Bool
falls [] = true
falls (e ∷ past) = follows e past && falls past

-- an entry that is no jump is on one side of that jump
abbrev pub is_ordered_with : JournalEntry → JournalEntry → Bool
is_ordered_with jump e = jumps e || is_earlier e jump || is_after_jump e jump

-- ---- what is known

-- the journal, each source, each actor's steps and each jump are legal; the lists fall; each entry has its tick and its time to each jump
pub record RunInvariant (m : Machine) (made : Made) : Type 0 where
  pub of_journal : JournalPart m (unstamped made.journal)
  pub steps : AreSteps m made
  pub of_jumps : AreJumps m (unstamped made.journal) (λ s. unstamped (made.of s))
  pub kept : list_all is_journals made.journal ≡ true
  pub sourced : (s : ℕ) → list_all (λ e. is_of s (class_of e.entry.kind)) (made.of s) ≡ true
  pub there : (who : Actor) → list_all (λ e. is_there m (class_of e.entry.kind)) (made.own who) ≡ true
  pub journal_falls : falls made.journal ≡ true
  pub sources_fall : (s : ℕ) → falls (made.of s) ≡ true
  pub own_fall : (who : Actor) → falls (made.own who) ≡ true
  pub ticks : AllOf (λ e. nat_lt 0 e.stamp.tick) made
  pub by_now : AllOf (λ e. nat_le e.entry.time (time_of (unstamped made.journal))) made
  pub times : AllOf (has_time made.journal) made
  pub raised : are_raised 0 0 (filter jumps (reverse made.journal)) ≡ true
  pub sides : EachJump (λ jump. AllOf (is_ordered_with jump) made) made.journal

-- a jump is after all entries; another is after each jump, and has the journal's time
abbrev pub IsInTime : Made → JournalEntry → Bool → Type 0
IsInTime made e true = AllOf (is_above e) made
IsInTime made e false =
    EachJump (λ jump. is_above e jump ≡ true) made.journal × (e.entry.time ≡ time_of (unstamped made.journal))

-- an entry is after the newest of its journal, or of its source
abbrev pub IsNewestOfOwn : Made → JournalEntry → EntryClass → Type 0
IsNewestOfOwn made e (Notes s call) = follows e (made.of s) ≡ true
IsNewestOfOwn made e (Moves s step) = follows e (made.of s) ≡ true
IsNewestOfOwn made e _ = follows e made.journal ≡ true

-- an entry may be made: it is its actor's next, legal in its journal or its source, and after the entries there, its actor's, and the jumps
pub record IsGrowth (m : Machine) (made : Made) (e : JournalEntry) : Type 0 where
  pub next : IsNext m made e.entry.actor e.entry (class_of e.entry.kind)
  pub may : MayHave made e.entry (class_of e.entry.kind)
  pub there : is_there m (class_of e.entry.kind) ≡ true
  pub of_journal : is_journals e ≡ true → JournalPart m (unstamped (e ∷ made.journal))
  pub of_jump : jumps e ≡ true → JumpStep m (unstamped made.journal) (λ s. unstamped (made.of s)) e.entry.now e.entry.time
  pub tick : nat_lt 0 e.stamp.tick ≡ true
  pub in_place : IsNewestOfOwn made e (class_of e.entry.kind)
  pub own : follows e (made.own e.entry.actor) ≡ true
  pub in_time : IsInTime made e (jumps e)

-- ---- the laws

-- nothing was made
abbrev pub nothing : Made
nothing = record { journal = []; of = λ s. []; own = λ who. [] }

-- of nothing all is known
abbrev pub InvariantBegins : Type 0
InvariantBegins = (m : Machine) → RunInvariant m nothing

-- what is known grows by each entry that may be made
abbrev pub InvariantGrows : Type 0
InvariantGrows = (m : Machine) (made : Made) (e : JournalEntry) → RunInvariant m made → IsGrowth m made e → RunInvariant m (with_entry e made)

-- a journal and histories have what was made, the oldest first, a history a source and autosleep's last, none longer than its places
pub record IsWritten
    (m : Machine) (made : Made) (journal : List JournalEntry) (histories : List (List SourceEntry)) : Type 0 where
  pub journal_is : journal ≡ reverse made.journal
  pub histories_are : (s : ℕ) → map of_source (slice_index_or histories s []) ≡ reverse (made.of s)
  pub count : length histories ≡ length m.sources + 1
  pub short : list_all (λ history. nat_le (length history) most_entries) histories ≡ true

-- with the closed table, what is known meets what the law of the one log asks
abbrev pub InvariantMerges : Type 0
InvariantMerges =
    (m : Machine) (made : Made) (steps : List (List MadeStep)) (looked : List (List EventNow)) (answer : EventNow)
    (journal : List JournalEntry) (histories : List (List SourceEntry))
    → RunInvariant m made → IsWritten m made journal histories → IsClosedOver steps looked answer journal histories
    → FitApart m journal histories (λ who. reverse (made.own who))
    × AreLegalApart m journal histories (λ who. reverse (made.own who))

-- ---- the end

-- the run is over, by all that was made and the word
pub record EndsFinished (m : Machine) (made : Made) (now : EventNow) (log : Log) : Type 0 where
  pub says : log.end ≡ Finished
  pub finished : is_finished m (unstamped made.journal) (λ s. unstamped (made.of s)) now ≡ true

-- nobody goes on, by all that was made and the word
pub record EndsStuck (m : Machine) (made : Made) (now : EventNow) (log : Log) : Type 0 where
  pub says : log.end ≡ Stuck (waiting m (unstamped made.journal) now)
  pub left : have_all_exited m (unstamped made.journal) ≡ false
  pub idle : is_idle m (unstamped made.journal) (λ s. unstamped (made.of s)) now ≡ true
  pub timeless : next_time m (unstamped made.journal) (λ s. unstamped (made.of s)) ≡ None

-- what is known at the end makes the merge a legal log, and a finished or stuck one by the last word that was seen
abbrev pub InvariantEnds : Type 0
InvariantEnds =
    (m : Machine) (made : Made) (steps : List (List MadeStep)) (looked : List (List EventNow)) (answer now : EventNow)
    (journal : List JournalEntry) (histories : List (List SourceEntry)) (log : Log)
    → RunInvariant m made → IsWritten m made journal histories → IsClosedOver steps looked answer journal histories
    → IsSeenLast looked histories now → IsMergeOf m journal histories log
    → IsLegalLog m log × (EndsFinished m made now log → IsFinishedLog m log) × (EndsStuck m made now log → IsStuckLog m log)
