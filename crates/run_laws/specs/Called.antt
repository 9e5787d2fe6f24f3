-- A whole call on a source, with what is known before and after it (own).
use Rattle.std.specs.Prelude.{◌≡◌, ℕ, Bool, true, false, ◌&&◌, ◌==◌, nat_le, List, [], ◌∷◌, length, map}
use Rattle.sleep_model.specs.declared.entry.Actor.{Actor}
use Rattle.sleep_model.specs.declared.entry.JournalEntry.{JournalEntry}
use Rattle.sleep_model.specs.declared.machine.Machine.{Machine}
use Rattle.sleep_model.specs.declared.machine.SourceCall.{SourceCall}
use Rattle.sleep_model.specs.declared.word.Stamp.{Stamp}
use Rattle.sleep_model.specs.Calls.{calls_of, note, notes_of}
use Rattle.sleep_model.specs.Merge.{of_source, next_position}
use Rattle.sleep_model.specs.Numbers.{time_of}
use Rattle.sleep_model.specs.Path.{is_same}
use Rattle.sleep_model.specs.Sources.{owed}
use Rattle.wakeup_source.specs.declared.call_by.CallBy.{CallBy}
use Rattle.wakeup_source.specs.Called.{Calls, SourceView}
use Rattle.wakeup_source.specs.SourceStates.{IsSettled, SourceState}
use Rattle.wakeup_source.specs.SourceStates as states
use Rattle.wakeup_source.specs.Shown.{MayCall}
use Rattle.log_merge.specs.Remainders.{unstamped}
use Rattle.run_laws.specs.Apart.{IsCall}
use Rattle.run_laws.specs.Acts.{IsBetweenCalls, Made}
use Rattle.run_laws.specs.Invariant.{EachJump, RunInvariant}

-- who last knew that stamp knew the newest of these entries: its tick, and the position that it left
abbrev pub knows : Stamp → List JournalEntry → Bool
knows floor [] = true
knows floor (e ∷ past) = nat_le e.stamp.tick floor.tick && nat_le (next_position e) floor.pos

-- a call is the caller's next, its source is between calls, and the caller knew its own newest entry and each jump, and has the journal's
-- time
pub record IsReady (m : Machine) (made : Made) (by : CallBy) (call : SourceCall) (source : SourceState) : Type 0 where
  pub invariant : RunInvariant m made
  pub entries : made.of source.id ≡ map of_source source.past
  pub settled : IsSettled source
  pub there : nat_le source.id (length m.sources) ≡ true
  pub free : IsBetweenCalls m made by.actor
  pub next : IsCall by.actor (calls_of m by.actor (unstamped made.journal)) (notes_of by.actor (unstamped (made.own by.actor)))
      (note source.id call)
  pub may : MayCall call (states.unstamped_source source.past) by.now
  pub own : knows by.floor (made.own by.actor) ≡ true
  pub jumps : EachJump (λ jump. knows by.floor (jump ∷ []) ≡ true) made.journal
  pub time : by.now ≡ time_of (unstamped made.journal)

-- after it the same is known of all that was made: the source has more entries, and its caller, and nothing else has
pub record IsCalled (m : Machine) (old new : Made) (by : CallBy) (source : SourceState) : Type 0 where
  pub invariant : RunInvariant m new
  pub journal : new.journal ≡ old.journal
  pub entries : new.of source.id ≡ map of_source source.past
  pub others : (s : ℕ) → (source.id == s) ≡ false → new.of s ≡ old.of s
  pub own : knows source.floor (new.own by.actor) ≡ true
  pub others_own : (who : Actor) → is_same by.actor who ≡ false → new.own who ≡ old.own who
  pub owes_none : owed (unstamped (new.of source.id)) ≡ []

-- a call that is ready leaves all known again
abbrev pub CallGrows : Type 0
CallGrows =
    (m : Machine) (made : Made) (by : CallBy) (call : SourceCall) (old new : SourceView) → IsReady m made by call old.source
    → Calls by call old new → (after : Made) × IsCalled m made after by new.source
