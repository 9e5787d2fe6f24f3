-- A report on a source in a state of a run.
use Rattle.std.proofs.Common.{◌≡◌, ◌∙◌, ◌≤◌, ◌<◌, ◌+◌, ℕ, Bool, true, false, ◌==◌, List, [], ◌∷◌, ◌++◌, length, map, slice_set, refl, sym, ap, subst, arith}
use Rattle.std.proofs.lemmas.Bool.Decides.{nat_tests}
use Rattle.sleep_model.specs.declared.entry.Actor.{Actor}
use Rattle.sleep_model.specs.declared.entry.JournalEntry.{JournalEntry}
use Rattle.sleep_model.specs.declared.entry.SourceEntry.{SourceEntry}
use Rattle.sleep_model.specs.declared.machine.Machine.{Machine}
use Rattle.sleep_model.specs.declared.machine.SourceCall.{SourceCall}
use Rattle.sleep_model.specs.declared.word.Stamp.{Stamp}
use Rattle.sleep_model.specs.Calls.{calls_of, note}
use Rattle.sleep_model.specs.Fits.{fits_actor, is_word64}
use Rattle.sleep_model.specs.Merge.{of_source}
use Rattle.sleep_model.specs.Numbers.{time_of}
use Rattle.sleep_state.specs.JournalRooms.{entries}
use Rattle.sleep_script.specs.Jobs.{JobState}
use Rattle.wakeup_source.specs.declared.call_by.CallBy.{CallBy}
use Rattle.wakeup_source.specs.SourceStates.{SourceState}
use Rattle.room_laws.specs.Ranged.{is_ranged}
use Rattle.run_laws.specs.Apart.{IsCall}
use Rattle.turn_lock.specs.declared.view.Made.{Made}
use Rattle.turn_lock.specs.Bookings.{placed}
use Rattle.run_laws.specs.Passes.{Noted}
use Rattle.run_world.specs.Roots.{notes_on}
use Rattle.run_world.specs.Outcomes.{IsReport}
use Rattle.running_laws.specs.Running.{IsGoing, calls_made, of_sources}
use Rattle.running_laws.proofs.Calls.{IsCalledNow}
use Rattle.running_laws.proofs.Lists.{set_same, source_other, source_set}
use Rattle.running_laws.proofs.Rising.{call_longer}
use Rattle.running_laws.specs.Courses.{Lands}
use Rattle.running_laws.proofs.GoingLanding.{HasLanded, lands_there}
use Rattle.running_laws.proofs.GoingSwapped.{one_swapped}

-- ---- the object of a report

map_onto : (added past : List SourceEntry) → map of_source (added ++ past) ≡ map of_source added ++ map of_source past
map_onto [] past = refl
map_onto (e ∷ added) past = ap (λ (l : List JournalEntry). of_source e ∷ l) (map_onto added past)

-- the source's list was the old source's, and is the new one's; the other lists are as they were
pub record HasReported (s : ℕ) (source source' : SourceState) (old new : ℕ → List JournalEntry) : Type 0 where
  pub was : old (1 + s) ≡ map of_source source.past
  pub is : new (1 + s) ≡ map of_source source'.past
  pub journal : new 0 ≡ old 0
  pub others : (t : ℕ) → (s == t) ≡ false → new (1 + t) ≡ old (1 + t)

module _ (by : CallBy) (call : SourceCall) (s : ℕ) (stamp : Stamp) (gains : List (Made Noted)) (t : IsReport by call s stamp gains) (old new : ℕ → List JournalEntry) (l : Lands gains old new) where
  landed : (added : List SourceEntry) → t.added ≡ added → HasLanded (1 + s) (map of_source t.old.source.past) (map of_source t.new.source.past) old new
  landed [] none = absurd (let same : length t.new.source.past ≡ length t.old.source.past = ap length (t.grown ∙ ap (λ (xs : List SourceEntry). xs ++ t.old.source.past) none) in omega (arith, call_longer by call t.old t.new t.calls))
  landed (e ∷ added) some =
      let gained = subst (λ (xs : List SourceEntry). gains ≡ placed (1 + s) (length t.old.source.past) (notes_on (map of_source t.old.source.past) (map of_source xs))) some t.gained in
      let with : of_source e ∷ map of_source added ++ map of_source t.old.source.past ≡ map of_source t.new.source.past =
      sym (map_onto (e ∷ added) t.old.source.past) ∙ ap (map of_source) (sym (t.grown ∙ ap (λ (xs : List SourceEntry). xs ++ t.old.source.past) some)) in
      subst (λ (xs : List JournalEntry). HasLanded (1 + s) (map of_source t.old.source.past) xs old new) with
      (lands_there (1 + s) (length t.old.source.past) (map of_source t.old.source.past) (of_source e) (map of_source added) gains old new gained l)

  pub has_reported : HasReported s t.old.source t.new.source old new
  has_reported =
      let there = landed t.added refl in
      record {
        was = there.was;
        is = there.is;
        journal = there.others 0 (let apart : (1 + s == 0) ≡ false = grind (arith, nat_tests) in apart);
        others = λ u off. there.others (1 + u) (let apart : (1 + s == 1 + u) ≡ false = grind (arith, nat_tests) in apart);
      }

-- ---- the report in the run

module _ (m : Machine) (journal : List JournalEntry) (sources : List SourceState) (jobs : Actor → JobState) (floors : Actor → Stamp) (r : IsGoing m journal sources jobs floors)
    (by : CallBy) (call : SourceCall) (s : ℕ) (stamp : Stamp) (gains : List (Made Noted)) (t : IsReport by call s stamp gains)
    (was : of_sources sources s ≡ map of_source t.old.source.past) (there : s ≤ length m.sources) where
  -- with the report's own source the run goes on as well
  abbrev pub before : List SourceState
  before = slice_set sources s t.old.source

  pub going_before : IsGoing m journal before jobs floors
  going_before = one_swapped m journal sources jobs floors r s t.old.source (omega (arith, there, r.sources_are.count)) (record { number = t.number; settled = t.settled; fresh = t.fresh }) was

  within : s < length before
  within = omega (arith, there, going_before.sources_are.count)

  abbrev pub after : List SourceState
  after = slice_set before s t.new.source

  -- and there the call is made
  pub called_now : IsCall by.actor (calls_of m by.actor (entries journal)) (calls_made m before by.actor) (note s call) → by.floor ≡ floors by.actor → by.now ≡ time_of (entries journal) → is_word64 by.now ≡ true
      → fits_actor m by.actor ≡ true → is_ranged (note s call) ≡ true → IsCalledNow m journal before jobs going_before s by call t.old t.new
  called_now next floor_is time_is timed acts ranged = record {
    there = there;
    old_is = sym (set_same sources s t.old.source t.old.source (omega (arith, there, r.sources_are.count)));
    next = next;
    may = t.may;
    floor_is = floor_is;
    time_is = time_is;
    calls = t.calls;
    settled = t.leaves;
    timed = timed;
    acts = acts;
    ranged = ranged;
  }

  -- the lists after it are the sources'
  pub lists_after : (old new : ℕ → List JournalEntry) → ((u : ℕ) → old (1 + u) ≡ of_sources sources u) → HasReported s t.old.source t.new.source old new → (u : ℕ) → new (1 + u) ≡ of_sources after u
  lists_after old new lists h u = by_place (s == u) refl
    where
      by_place : (b : Bool) → (s == u) ≡ b → new (1 + u) ≡ of_sources after u
      by_place true at =
          let here : s ≡ u = grind (arith, nat_tests) in
          subst (λ (n : ℕ). new (1 + n) ≡ of_sources after n) here (h.is ∙ sym (source_set before s t.new.source within))
      by_place false off = h.others u off ∙ (lists u ∙ sym (source_other before s u t.new.source off ∙ source_other sources s u t.old.source off))
