-- What is so of a run between turns.
use Rattle.std.proofs.Common.{◌≡◌, ◌≤◌, ◌<◌, ◌+◌, ◌∙◌, ℕ, suc, Bool, true, false, ◌||◌, nat_lt, List, [], ◌∷◌, length, slice_index_or, refl, sym, ap, subst, arith, nat_le, ◌&&◌}
use Rattle.log_merge.proofs.Reading.{both_left}
use Rattle.log_merge.specs.Remainders.{unstamped}
use Rattle.run_laws.proofs.Lists.{all_head}
use Rattle.core_history.specs.Histories.{last_stamp}
use Rattle.sleep_model.specs.Merge.{next_position}
use Rattle.std.specs.List.{list_all}
use Rattle.std.proofs.lemmas.Bool.Decides.{nat_tests}
use Rattle.sleep_model.specs.declared.entry.Actor.{Actor}
use Rattle.sleep_model.specs.declared.entry.Actor.TheVariants as actor
use Rattle.sleep_model.specs.declared.entry.Entry.{Entry}
use Rattle.sleep_model.specs.declared.entry.JournalEntry.{JournalEntry}
use Rattle.sleep_model.specs.declared.entry.SourceEntry.{SourceEntry}
use Rattle.sleep_model.specs.declared.machine.Machine.{Machine}
use Rattle.sleep_model.specs.declared.word.EventNow.{EventNow}
use Rattle.sleep_model.specs.declared.word.Stamp.{Stamp}
use Rattle.sleep_model.specs.Calls.{calls_due, notes_of}
use Rattle.sleep_model.specs.Due.{due}
use Rattle.sleep_model.specs.Fits.{fits_actor}
use Rattle.sleep_model.specs.Legal.{is_enabled, is_made}
use Rattle.sleep_model.specs.Sources.{owed}
use Rattle.sleep_state.specs.JournalRooms.{entries}
use Rattle.sleep_core.specs.Cores.{IsActor}
use Rattle.sleep_script.specs.Jobs.{JobState}
use Rattle.sleep_script.proofs.Following.{all_made}
use Rattle.wakeup_source.specs.SourceStates.{SourceState}
use Rattle.wakeup_source.specs.SourceStates as states
use Rattle.run_laws.specs.Acts.{IsBetweenCalls, Made}
use Rattle.run_laws.specs.Called.{knows}
use Rattle.run_laws.specs.Invariant.{AllOf}
use Rattle.run_laws.proofs.Jobs.{settled_is_free}
use Rattle.running_laws.specs.Running.{IsGoing, IsRunning, calls_made, histories, made_so}
use Rattle.running_laws.proofs.Known.{all_by_own, few_made, made_is_notes}
use Rattle.running_laws.proofs.Lists.{history_at, source_beyond}

-- an actor is the machine's
pub actor_told : (m : Machine) (who : Actor) → IsActor m who → fits_actor m who ≡ true
actor_told m (actor.Script i) h = let is : nat_lt i (length m.actors) ≡ true = grind (arith, nat_tests) in is
actor_told m actor.Auto h = refl
actor_told m (actor.Dev d) h = let is : nat_lt d (length m.devices) ≡ true = grind (arith, nat_tests) in is
actor_told m (actor.Timer s) h = absurd h
actor_told m actor.Time h = refl

module _ (m : Machine) (journal : List JournalEntry) (sources : List SourceState) (jobs : Actor → JobState) {floors : Actor → Stamp} (r : IsGoing m journal sources jobs floors) where
  abbrev pub all : Made
  all = made_so journal sources r.own

  -- ---- the sources

  by_place : (P : List Entry → Type 0) → P [] → ((s : ℕ) (none : SourceState) → s < length sources → P (states.unstamped_source (slice_index_or sources s none).past)) → (s : ℕ) → P (histories sources s)
  by_place P empty each s = by (nat_lt s (length sources)) refl
    where
      by : (b : Bool) → nat_lt s (length sources) ≡ b → P (histories sources s)
      by true is =
          let l : s < length sources = grind (arith, nat_tests) in
          let none : SourceState = states.new_source s in
          subst P (sym (history_at sources s none l)) (each s none l)
      by false is =
          let l : length sources ≤ s = grind (arith, nat_tests) in
          subst P (sym (ap unstamped (source_beyond sources s l))) empty

  -- no source is owed a step
  pub owes_none : (s : ℕ) → owed (histories sources s) ≡ []
  owes_none s = by_place (λ (own : List Entry). owed own ≡ []) refl (λ s none l. (r.sources_are.each s none l).settled.owes_none) s

  -- so nobody is inside a call
  pub free : (who : Actor) → IsBetweenCalls m all who
  free who = settled_is_free m all who owes_none

  unstamped_count : (p : List SourceEntry) → length (states.unstamped_source p) ≡ length p
  unstamped_count [] = refl
  unstamped_count (e ∷ p) = ap suc (unstamped_count p)

  -- each has its room
  pub short : (s : ℕ) → length (histories sources s) ≤ 60000
  short s = by_place (λ (own : List Entry). length own ≤ 60000) (omega arith)
      (λ s none l. omega (arith, unstamped_count (slice_index_or sources s none).past, (r.sources_are.each s none l).settled.short)) s

  -- an actor makes few calls
  pub few_calls : (who : Actor) → calls_made m sources who ≤ 15360000
  few_calls who = omega (arith, few_made (length m.sources + 1) (histories sources) who short, r.accepted.sources)

  -- ---- the jobs

  -- an actor's calls are its notes
  pub calls_are_notes : (who : Actor) → calls_made m sources who ≡ notes_of who (unstamped (r.own who))
  calls_are_notes who = made_is_notes m all who r.invariant

  -- an actor that has made its calls has none left
  pub none_left : (who : Actor) → IsActor m who → calls_made m sources who ≡ calls_due m who (entries journal) → (jobs who).pending ≡ []
  none_left who a own = (all_made m who (entries journal) (calls_made m sources who) (jobs who) (r.jobs_are who a)).1 own

  -- ---- who is enabled

  -- an actor is enabled if it has a call to make, or an entry is due of it
  pub enabled_is : (now : EventNow) (who : Actor) (n : ℕ) → n ≡ calls_made m sources who
      → (nat_lt n (calls_due m who (entries journal)) || is_made (due m (entries journal) who now)) ≡ is_enabled m (entries journal) (histories sources) now who
  enabled_is now who n e =
      ap (λ k. nat_lt k (calls_due m who (entries journal)) || is_made (due m (entries journal) who now)) e
      ∙ ap (λ b. b || nat_lt (calls_made m sources who) (calls_due m who (entries journal)) || is_made (due m (entries journal) who now)) (sym (free who))

-- with one worker the one stamp knows all
pub all_known : (m : Machine) (journal : List JournalEntry) (sources : List SourceState) (jobs : Actor → JobState) {floor : Stamp} (r : IsRunning m journal sources jobs floor)
    → AllOf (λ e. knows floor (e ∷ [])) (made_so journal sources r.own)
all_known m journal sources jobs {floor} r = all_by_own m (made_so journal sources r.own) floor r.invariant r.floors_know.own

-- so no stamp of the journal is above it
pub last_known : (m : Machine) (journal : List JournalEntry) (sources : List SourceState) (jobs : Actor → JobState) {floor : Stamp} → IsRunning m journal sources jobs floor → (last_stamp journal).tick ≤ floor.tick
last_known m journal sources jobs {floor} r = by journal (all_known m journal sources jobs r).0
  where
    by : (l : List JournalEntry) → list_all (λ e. knows floor (e ∷ [])) l ≡ true → (last_stamp l).tick ≤ floor.tick
    by [] h = omega arith
    by (e ∷ l) h =
        let here : nat_le e.stamp.tick floor.tick && nat_le (next_position e) floor.pos ≡ true = all_head (λ (x : JournalEntry). knows floor (x ∷ [])) e l h in
        let tick : nat_le e.stamp.tick floor.tick ≡ true = both_left (nat_le e.stamp.tick floor.tick) (nat_le (next_position e) floor.pos) here in
        grind (arith, nat_tests)
