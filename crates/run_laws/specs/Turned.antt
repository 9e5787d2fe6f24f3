-- A turn of the machine and a jump of time, with what is known before and after them (own).
use Rattle.std.specs.Prelude.{◌≡◌, ◌≤◌, ◌<◌, ℕ, true, false, List, [], ◌∷◌}
use Rattle.sleep_model.specs.declared.entry.Actor.{Actor}
use Rattle.sleep_model.specs.declared.entry.Actor.TheVariants as actor
use Rattle.sleep_model.specs.declared.entry.JournalEntry.{JournalEntry}
use Rattle.sleep_model.specs.declared.machine.Machine.{Machine}
use Rattle.sleep_model.specs.declared.word.Stamp.{Stamp}
use Rattle.sleep_model.specs.Calls.{calls_due, notes_of}
use Rattle.sleep_model.specs.Legal.{JournalPart, JumpStep}
use Rattle.sleep_model.specs.EntryClasses.{OfTime, class_of}
use Rattle.sleep_model.specs.Path.{is_same}
use Rattle.log_merge.specs.Remainders.{unstamped}
use Rattle.run_laws.specs.Acts.{IsBetweenCalls, Made, with_entry}
use Rattle.run_laws.specs.Called.{knows}
use Rattle.run_laws.specs.Invariant.{AllOf, EachJump, RunInvariant}

-- the stamp of the newest entry; nothing at first
abbrev pub newest_stamp : List JournalEntry → Stamp
newest_stamp [] = record { pos = 0; tick = 0 }
newest_stamp (e ∷ past) = e.stamp

-- a stamp is after what was known
pub record IsAfter (floor stamp : Stamp) : Type 0 where
  pub tick : floor.tick < stamp.tick
  pub pos : floor.pos ≤ stamp.pos

-- an actor may make an entry of the journal: it is inside no call, has made all that are due, and the entry is legal and after what its
-- actor and the journal last knew
pub record MayTurn (m : Machine) (made : Made) (who : Actor) (floor : Stamp) (e : JournalEntry) : Type 0 where
  pub invariant : RunInvariant m made
  pub by : e.entry.actor ≡ who
  pub timeless : is_same who actor.Time ≡ false
  pub free : IsBetweenCalls m made who
  pub all_made : notes_of who (unstamped (made.own who)) ≡ calls_due m who (unstamped made.journal)
  pub legal : JournalPart m (unstamped (e ∷ made.journal))
  pub own : knows floor (made.own who) ≡ true
  pub jumps : EachJump (λ jump. knows floor (jump ∷ []) ≡ true) made.journal
  pub behind : IsAfter floor e.stamp
  pub last : IsAfter (newest_stamp made.journal) e.stamp

-- time may jump: nobody can make anything, after all that was made
pub record MayLeap (m : Machine) (made : Made) (floor : Stamp) (e : JournalEntry) : Type 0 where
  pub invariant : RunInvariant m made
  pub by : e.entry.actor ≡ actor.Time
  pub leaps : class_of e.entry.kind ≡ OfTime
  pub step : JumpStep m (unstamped made.journal) (λ s. unstamped (made.of s)) e.entry.now e.entry.time
  pub legal : JournalPart m (unstamped (e ∷ made.journal))
  pub all : AllOf (λ other. knows floor (other ∷ [])) made
  pub own : knows floor (made.own actor.Time) ≡ true
  pub behind : IsAfter floor e.stamp

-- after it the same is known: the journal has the entry, and its maker, and nothing else has changed
pub record IsTurned (m : Machine) (old new : Made) (who : Actor) (e : JournalEntry) : Type 0 where
  pub invariant : RunInvariant m new
  pub journal : new.journal ≡ e ∷ old.journal
  pub sources : (s : ℕ) → new.of s ≡ old.of s
  pub own : knows e.stamp (new.own who) ≡ true
  pub others_own : (other : Actor) → is_same who other ≡ false → new.own other ≡ old.own other

-- an entry of the journal that may be made leaves all known again
abbrev pub TurnGrows : Type 0
TurnGrows =
    (m : Machine) (made : Made) (who : Actor) (floor : Stamp) (e : JournalEntry) → MayTurn m made who floor e
    → IsTurned m made (with_entry e made) who e

-- so does a jump
abbrev pub LeapGrows : Type 0
LeapGrows =
    (m : Machine) (made : Made) (floor : Stamp) (e : JournalEntry) → MayLeap m made floor e
    → IsTurned m made (with_entry e made) actor.Time e
