-- What was made so far, and which entry may be made next (own).
use Rattle.std.specs.Prelude.{◌≡◌, ◌+◌, ℕ, Bool, true, false, List, ◌∷◌, length, filter, if◌then◌else◌}
use Rattle.sleep_model.specs.declared.entry.Actor.{Actor}
use Rattle.sleep_model.specs.declared.entry.Entry.{Entry}
use Rattle.sleep_model.specs.declared.entry.JournalEntry.{JournalEntry}
use Rattle.sleep_model.specs.declared.machine.Machine.{Machine}
use Rattle.sleep_model.specs.Calls.{calls_due, calls_of, is_calling, notes_of}
use Rattle.sleep_model.specs.Legal.{last_is_of}
use Rattle.sleep_model.specs.Merge.{entries_of}
use Rattle.sleep_model.specs.EntryClasses.{EntryClass, OfJournal, Notes, Moves, OfTime, class_of}
use Rattle.sleep_model.specs.Path.{is_same}
use Rattle.sleep_model.specs.Sources.{SourceStep, is_of}
use Rattle.log_merge.specs.Remainders.{unstamped}
use Rattle.run_laws.specs.Apart.{AreActorSteps, IsCall, IsSource, calls_after, is_inside, is_journals}

-- what was made so far: the journal, the entries of each source, and each actor's own, the newest first
pub record Made : Type 0 where
  pub journal : List JournalEntry
  pub of : ℕ → List JournalEntry
  pub own : Actor → List JournalEntry

-- the entry before these, if that is so
abbrev pub put_if : Bool → JournalEntry → List JournalEntry → List JournalEntry
put_if now e entries = if now then e ∷ entries else entries

-- after one more entry: the journal or its source has it, and its actor
abbrev pub with_entry : JournalEntry → Made → Made
with_entry e made = record {
  journal = put_if (is_journals e) e made.journal;
  of = λ s. put_if (is_of s (class_of e.entry.kind)) e (made.of s);
  own = λ who. put_if (is_same e.entry.actor who) e (made.own who);
}

-- the actor is inside no call
abbrev pub IsBetweenCalls : Machine → Made → Actor → Type 0
IsBetweenCalls m made who = is_calling (length m.sources + 1) (λ s. unstamped (made.of s)) who ≡ false

-- the entry is the actor's next, by the calls that are due of it, and those that it has made
abbrev pub IsNext : Machine → Made → Actor → Entry → EntryClass → Type 0
IsNext m made who e OfJournal =
    (notes_of who (unstamped (made.own who)) ≡ calls_due m who (unstamped made.journal)) × IsBetweenCalls m made who
IsNext m made who e (Notes s call) =
    IsCall who (calls_of m who (unstamped made.journal)) (notes_of who (unstamped (made.own who))) e.kind × IsBetweenCalls m made who
IsNext m made who e (Moves s step) = last_is_of s who (unstamped (made.own who)) ≡ true
IsNext m made who e OfTime = Unit {0}

-- its source may have it next
abbrev pub MayHave : Made → Entry → EntryClass → Type 0
MayHave made e (Notes s call) = SourceStep (unstamped (made.of s)) e.time e.actor (Notes s call)
MayHave made e (Moves s step) = SourceStep (unstamped (made.of s)) e.time e.actor (Moves s step)
MayHave made e _ = Unit {0}

-- each of an actor's entries is its step, and those of the journal and of each source are its entries there
pub record IsKnown (m : Machine) (made : Made) (who : Actor) : Type 0 where
  pub steps : AreActorSteps who (λ k. calls_after m who k (unstamped made.journal))
      (is_inside (length m.sources + 1) (λ s. unstamped (made.of s)) who) (unstamped (made.own who))
  pub in_journal : filter is_journals (made.own who) ≡ entries_of who made.journal
  pub in_sources : (s : ℕ) → filter (λ e. is_of s (class_of e.entry.kind)) (made.own who) ≡ entries_of who (made.of s)

-- so for all actors, and each source's entries are legal after the older ones
pub record AreSteps (m : Machine) (made : Made) : Type 0 where
  pub of_actors : (who : Actor) → IsKnown m made who
  pub of_sources : (s : ℕ) → IsSource (unstamped (made.of s))

-- one more entry, its actor's next, which its source may have, leaves all entries of all actors their steps
abbrev pub ActsAreSteps : Type 0
ActsAreSteps =
    (m : Machine) (made : Made) (e : JournalEntry) → AreSteps m made
    → IsNext m made e.entry.actor e.entry (class_of e.entry.kind) → MayHave made e.entry (class_of e.entry.kind)
    → AreSteps m (with_entry e made)
