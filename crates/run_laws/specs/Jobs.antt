-- A job says what its actor makes next, and follows what was made (own).
use Rattle.std.specs.Prelude.{◌≡◌, ℕ, Bool, true, false, [], ◌∷◌}
use Rattle.sleep_model.specs.declared.entry.Actor.{Actor}
use Rattle.sleep_model.specs.declared.entry.Actor.TheVariants as actor
use Rattle.sleep_model.specs.declared.entry.JournalEntry.{JournalEntry}
use Rattle.sleep_model.specs.declared.log.Want.TheVariants as want
use Rattle.sleep_model.specs.declared.machine.Machine.{Machine}
use Rattle.sleep_model.specs.declared.machine.SourceCall.{SourceCall}
use Rattle.sleep_model.specs.declared.word.Stamp.{Stamp}
use Rattle.sleep_model.specs.declared.word.WordKind.{WordKind}
use Rattle.sleep_model.specs.Calls.{note, notes_of}
use Rattle.sleep_model.specs.EntryClasses.{OfJournal, Notes, Moves, class_of}
use Rattle.sleep_model.specs.Path.{attempts, is_same}
use Rattle.sleep_model.specs.Sources.{owed}
use Rattle.sleep_script.specs.Jobs.{IsJobOf, IsWanted, JobState, after_call, after_turn}
use Rattle.log_merge.specs.Remainders.{unstamped}
use Rattle.run_laws.specs.Acts.{IsBetweenCalls, IsNext, Made, with_entry}

-- the job has the state that all that was made leaves it in
abbrev pub IsJob : Machine → Made → Actor → JobState → Type 0
IsJob m made who job = IsJobOf m who (unstamped made.journal) (notes_of who (unstamped (made.own who))) job

-- the actor is a source's timer, which has no job of calls (pm_wakeup_timer_fn)
abbrev pub is_timer : Actor → Bool
is_timer (actor.Timer s) = true
is_timer _ = false

-- after one more entry: another's changes no job, a turn and a call bring its actor's on, and a step of a call leaves it
pub record Follows (m : Machine) (made : Made) (e : JournalEntry) (who : Actor) (job : JobState) (stamp : Stamp) : Type 0 where
  pub others : is_same e.entry.actor who ≡ false → IsJob m (with_entry e made) who job
  pub turn : is_same e.entry.actor who ≡ true → class_of e.entry.kind ≡ OfJournal → IsWanted job want.Core
      → IsJob m (with_entry e made) who (after_turn stamp e.entry.kind (attempts (unstamped (e ∷ made.journal))) job)
  pub call : (s : ℕ) (made_call : SourceCall) → is_same e.entry.actor who ≡ true → class_of e.entry.kind ≡ Notes s made_call
      → IsWanted job (want.Source s made_call) → IsJob m (with_entry e made) who (after_call stamp job)
  pub step : (s : ℕ) (made_step : WordKind) → is_same e.entry.actor who ≡ true → class_of e.entry.kind ≡ Moves s made_step
      → IsJob m (with_entry e made) who job

-- each job follows each entry, whatever stamp its actor then knows
abbrev pub JobsFollow : Type 0
JobsFollow =
    (m : Machine) (made : Made) (e : JournalEntry) (who : Actor) (job : JobState) (stamp : Stamp)
    → IsJob m made who job → Follows m made e who job stamp

-- what the job of an actor wants that is inside no call is its next: a turn, or the note of a call
pub record WantsNext (m : Machine) (made : Made) (e : JournalEntry) (who : Actor) (job : JobState) : Type 0 where
  pub turn : IsWanted job want.Core → IsNext m made who e.entry OfJournal
  pub call : (s : ℕ) (made_call : SourceCall) → is_timer who ≡ false → e.entry.kind ≡ note s made_call
      → IsWanted job (want.Source s made_call) → IsNext m made who e.entry (Notes s made_call)

-- each job says what is next of its actor
abbrev pub JobsWantNext : Type 0
JobsWantNext =
    (m : Machine) (made : Made) (e : JournalEntry) (who : Actor) (job : JobState)
    → IsJob m made who job → IsBetweenCalls m made who → WantsNext m made e who job

-- if no source is owed a step, each actor is inside no call
abbrev pub SettledIsFree : Type 0
SettledIsFree =
    (m : Machine) (made : Made) (who : Actor) → ((s : ℕ) → owed (unstamped (made.of s)) ≡ []) → IsBetweenCalls m made who
