-- The premises of the laws of a run as tests that compute, for entries that one worker makes.
use Rattle.std.specs.Prelude.{◌≡◌, Bool, true, false, ◌||◌, not, nat_lt, List, [], ◌∷◌, reverse}
use Rattle.std.specs.List.{list_all}
use Rattle.sleep_model.specs.declared.entry.Entry.{Entry}
use Rattle.sleep_model.specs.declared.entry.JournalEntry.{JournalEntry}
use Rattle.sleep_model.specs.declared.machine.Machine.{Machine}
use Rattle.sleep_model.specs.Legal.{JournalPart, JumpStep, is_there}
use Rattle.sleep_model.specs.Numbers.{time_of}
use Rattle.sleep_model.specs.EntryClasses.{class_of}
use Rattle.log_merge.specs.Remainders.{unstamped}
use Rattle.run_laws.specs.Apart.{is_journals}
use Rattle.run_laws.specs.Fitting.{jumps}
use Rattle.run_laws.specs.Acts.{IsNext, Made, MayHave, with_entry}
use Rattle.run_laws.specs.Invariant.{RunInvariant, IsNewestOfOwn, follows, is_above, nothing}
use Rattle.law_trials.specs.Merging.{all_ticked}

-- what these entries, the newest first, have made
abbrev pub made_of : List JournalEntry → Made
made_of [] = nothing
made_of (e ∷ past) = with_entry e (made_of past)

-- an entry of the journal is legal there
abbrev pub InJournal : Machine → Made → JournalEntry → Bool → Type 0
InJournal m made e true = JournalPart m (unstamped (e ∷ made.journal))
InJournal m made e false = Unit {0}

-- a jump is in the journal only if it may be
abbrev pub MayJump : Machine → Made → JournalEntry → Bool → Type 0
MayJump m made e true = JumpStep m (unstamped made.journal) (λ s. unstamped (made.of s)) e.entry.now e.entry.time
MayJump m made e false = Unit {0}

-- a jump is after all, and another after each jump, at the journal's time
abbrev pub IsTimed : List JournalEntry → JournalEntry → Bool → Type 0
IsTimed past e true = list_all (is_above e) past ≡ true
IsTimed past e false =
    (list_all (λ j. not (jumps j) || is_above e j) past ≡ true) × (e.entry.time ≡ time_of (unstamped (made_of past).journal))

-- the entry may be made after these
pub record Tested (m : Machine) (past : List JournalEntry) (e : JournalEntry) : Type 0 where
  pub next : IsNext m (made_of past) e.entry.actor e.entry (class_of e.entry.kind)
  pub may : MayHave (made_of past) e.entry (class_of e.entry.kind)
  pub there : is_there m (class_of e.entry.kind) ≡ true
  pub of_journal : InJournal m (made_of past) e (is_journals e)
  pub of_jump : MayJump m (made_of past) e (jumps e)
  pub tick : nat_lt 0 e.stamp.tick ≡ true
  pub in_place : IsNewestOfOwn (made_of past) e (class_of e.entry.kind)
  pub own : follows e ((made_of past).own e.entry.actor) ≡ true
  pub in_time : IsTimed past e (jumps e)

-- so may each of these, the newest first
abbrev pub AllTested : Machine → List JournalEntry → Type 0
AllTested m [] = Unit {0}
AllTested m (e ∷ past) = Tested m past e × AllTested m past

-- so may the entries of a log, as one worker makes them
abbrev pub IsTestedRun : Machine → List Entry → Type 0
IsTestedRun m entries = AllTested m (reverse (all_ticked 1 entries))

-- of entries that pass the tests all is known
abbrev pub TestsShowInvariant : Type 0
TestsShowInvariant = (m : Machine) (entries : List JournalEntry) → AllTested m entries → RunInvariant m (made_of entries)
