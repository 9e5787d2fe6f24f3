-- A call on a source and a turn of the machine, by what their objects gain.
use Rattle.std.proofs.Common.{◌≡◌, ◌∙◌, inl, inr, ℕ, ◌+◌, List, [], ◌∷◌, ◌++◌, length, map, Option, Some, None, Result, Ok, Err, refl, sym, ap, subst}
use Rattle.std.proofs.lemmas.List.{length-map, map-append}
use Rattle.sleep_model.specs.declared.entry.Actor.{Actor}
use Rattle.sleep_model.specs.declared.entry.JournalEntry.{JournalEntry}
use Rattle.sleep_model.specs.declared.entry.SourceEntry.{SourceEntry}
use Rattle.sleep_model.specs.declared.machine.SourceCall.{SourceCall}
use Rattle.sleep_model.specs.declared.word.Stamp.{Stamp}
use Rattle.sleep_model.specs.declared.word.WordKind.{WordKind}
use Rattle.sleep_model.specs.Legal.{JournalPart}
use Rattle.sleep_model.specs.Merge.{of_source}
use Rattle.sleep_model.specs.Numbers.{time_of}
use Rattle.sleep_model.specs.Path.{attempts}
use Rattle.sleep_model.specs.Sources.{makes, since}
use Rattle.sleep_model.specs.Word.{position}
use Rattle.sleep_state.specs.JournalRooms.{entries}
use Rattle.sleep_core.specs.declared.turns.CoreFault.{CoreFault}
use Rattle.sleep_core.specs.declared.turns.CoreTurn.{CoreTurn}
use Rattle.sleep_core.specs.declared.turns.CoreTurn.TheVariants.{Did, NotYet, Done}
use Rattle.sleep_core.specs.Cores.{CoreState, made_entry, core_after}
use Rattle.wakeup_source.specs.declared.call_by.CallBy.{CallBy}
use Rattle.wakeup_source.specs.declared.fault.SourceFault.{SourceFault}
use Rattle.wakeup_source.specs.Called.{Calls, SourceView, Steps, after_step}
use Rattle.wakeup_source.specs.SourceStates.{unstamped_source, note_entry, note_tick, step_entry}
use Rattle.turn_lock.specs.declared.view.Made.{Made}
use Rattle.turn_lock.specs.Passes.{HasGrown, gained}
use Rattle.run_laws.specs.Passes.{Noted, items}
use Rattle.run_objects.specs.Objects.{SeatedCoreState, SeatedSourceState, viewed_source_of}
use Rattle.run_world.specs.declared.object.WorldObject.TheVariants as object
use Rattle.run_world.specs.declared.timed.TimedSource.{TimedSource}
use Rattle.run_world.specs.Roots.{notes_on}
use Rattle.run_world.specs.Calling.{AfterCall, AfterMachineTurn, IsTried}
use Rattle.run_world.specs.Objects.{notes_of, root_of}
use Rattle.run_world.specs.Outcomes.{AfterCoreTurn, AfterReport}
use Rattle.run_world.proofs.Adding.{append_none, items_count, items_more, placed_more, placed_none}

-- ---- a call

-- the source has more entries than it had
HasMore : List SourceEntry → List SourceEntry → Type 0
HasMore old new = (added : List SourceEntry) × (new ≡ added ++ old)

steps_add : (by : CallBy) (steps : List WordKind) (base before : List SourceEntry) (old new : SourceView) → old.source.past ≡ before ++ base → Steps by steps old new → HasMore base new.source.past
unfolding HasMore
steps_add by [] base before old new is h = (before, ap (λ (s : SourceView). s.source.past) h ∙ is)
steps_add by (step ∷ rest) base before old new is h =
    let e : SourceEntry = record {
      stamp = record { pos = position h.0; tick = old.source.floor.tick + 1 };
      entry = step_entry old.source.id step by.actor by.now h.0;
    } in
    steps_add by rest base (e ∷ before) (after_step by step h.0 old) new (ap (λ (l : List SourceEntry). e ∷ l) is) h.3

call_adds : (by : CallBy) (c : SourceCall) (old new : SourceView) → Calls by c old new → HasMore old.source.past new.source.past
unfolding HasMore
call_adds by c old new h =
    let e : SourceEntry = record {
      stamp = record { pos = position h.1.0; tick = note_tick by old.source };
      entry = note_entry old.source.id c by.actor by.now h.1.0;
    } in
    steps_add by (makes c (since (unstamped_source old.source.past))) old.source.past (e ∷ []) h.0 new (ap (λ (s : SourceView). s.source.past) h.1.6) h.2

grown_source : (old new added : List SourceEntry) → new ≡ added ++ old → items (map of_source new) ≡ items (map of_source old) ++ notes_on (map of_source old) (map of_source added)
grown_source old new added is = ap (λ (l : List SourceEntry). items (map of_source l)) is ∙ ap items (map-append of_source added old) ∙ items_more (map of_source old) (map of_source added)

module _ (by : CallBy) (c : SourceCall) (old new : TimedSource) where
  same_notes : new.source ≡ old.source → notes_of (object.Source new) ≡ notes_of (object.Source old)
  same_notes same = ap (λ (s : SeatedSourceState). items (map of_source s.source.past)) same

  pub report_grown : (result : Result (Option Stamp) SourceFault) → AfterCall by c old.source new.source result → HasGrown root_of notes_of (notes_of (object.Source old)) (object.Source new)
  unfolding HasMore
  report_grown (Ok (Some stamp)) h =
      let more = call_adds by c (viewed_source_of old.source) (viewed_source_of new.source) h.calls in
      (notes_on (map of_source old.source.source.past) (map of_source more.0), grown_source old.source.source.past new.source.source.past more.0 more.1)
  report_grown (Ok None) h = ([], same_notes h.2 ∙ sym (append_none (notes_of (object.Source old))))
  report_grown (Err fault) h = ([], same_notes h.1 ∙ sym (append_none (notes_of (object.Source old))))

  -- a source that stays as it was has gained nothing
  nothing : new.source ≡ old.source → gained root_of notes_of (1 + old.source.source.id) (notes_of (object.Source old)) (object.Source new) ≡ []
  nothing same = placed_none (1 + old.source.source.id) (notes_of (object.Source old)) (notes_of (object.Source new)) (same_notes same)

  pub report_after : (result : Result (Option Stamp) SourceFault) → AfterCall by c old.source new.source result
      → AfterReport by c old.source.source.id old.source.source.past result (gained root_of notes_of (1 + old.source.source.id) (notes_of (object.Source old)) (object.Source new))
  unfolding HasMore
  report_after (Ok (Some stamp)) h =
      let more = call_adds by c (viewed_source_of old.source) (viewed_source_of new.source) h.calls in (
        record {
          old = viewed_source_of old.source;
          new = viewed_source_of new.source;
          added = more.0;
          number = refl;
          settled = h.settled;
          fresh = h.fresh;
          may = h.may;
          calls = h.calls;
          grown = more.1;
          leaves = h.leaves;
          stamp_is = h.stamp_is;
          gained = placed_more (1 + old.source.source.id) (length old.source.source.past) (notes_of (object.Source old)) (notes_of (object.Source new))
              (notes_on (map of_source old.source.source.past) (map of_source more.0)) (grown_source old.source.source.past new.source.source.past more.0 more.1)
              (items_count (map of_source old.source.source.past) ∙ length-map old.source.source.past of_source);
        },
        refl,
      )
  report_after (Ok None) h = record { is = h.0; waits = h.1; gained = nothing h.2 }
  report_after (Err fault) h = record { refused = h.0; gained = nothing h.1 }

-- ---- a turn

module _ (who : Actor) (calls : ℕ) (floor : Stamp) (now : ℕ) (old new : SeatedCoreState) where
  same_journal : new.core ≡ old.core → notes_of (object.Machine new) ≡ notes_of (object.Machine old)
  same_journal same = ap (λ (s : CoreState). items s.past) same

  -- the entry of a turn, with those before it
  one_more : (e : JournalEntry) → new.core ≡ core_after old.core e → notes_of (object.Machine new) ≡ notes_of (object.Machine old) ++ record { entry = e; past = old.core.past } ∷ []
  one_more e is = ap (λ (s : CoreState). items s.past) is

  no_more : notes_of (object.Machine new) ≡ notes_of (object.Machine old) → HasGrown root_of notes_of (notes_of (object.Machine old)) (object.Machine new)
  no_more same = ([], same ∙ sym (append_none (notes_of (object.Machine old))))

  tried_grown : (result : Result CoreTurn CoreFault) → IsTried old.core new.core who calls floor result → HasGrown root_of notes_of (notes_of (object.Machine old)) (object.Machine new)
  tried_grown (Ok (Did stamp k attempt)) h =
      (record { entry = made_entry old.core.past who h.word floor k; past = old.core.past } ∷ [], one_more (made_entry old.core.past who h.word floor k) h.after.1)
  tried_grown (Ok (NotYet why)) h = no_more (same_journal h.after.1)
  tried_grown (Ok Done) h = no_more (same_journal h.after.1)
  tried_grown (Err fault) h = no_more (same_journal h.after.2)

  pub turn_grown : (result : Result CoreTurn CoreFault) → AfterMachineTurn old.core new.core who calls floor now result → HasGrown root_of notes_of (notes_of (object.Machine old)) (object.Machine new)
  turn_grown result (inl h) = tried_grown result h.1
  turn_grown result (inr h) = no_more (same_journal h.same)

  none_gained : notes_of (object.Machine new) ≡ notes_of (object.Machine old) → gained root_of notes_of 0 (notes_of (object.Machine old)) (object.Machine new) ≡ []
  none_gained same = placed_none 0 (notes_of (object.Machine old)) (notes_of (object.Machine new)) same

  -- what the turn has gained
  gains : List (Made Noted)
  gains = gained root_of notes_of 0 (notes_of (object.Machine old)) (object.Machine new)

  tried_after : (result : Result CoreTurn CoreFault) → now ≡ time_of (entries old.core.past) → IsTried old.core new.core who calls floor result → AfterCoreTurn old.core.machine who calls floor now old.core.past result gains
  unfolding gains
  tried_after (Ok (Did stamp k attempt)) is h =
      let e : JournalEntry = made_entry old.core.past who h.word floor k in (
        record {
          past = old.core.past;
          word = h.word;
          calls_are = h.calls_are;
          due_is = h.after.0;
          floor_low = h.floor_low;
          last_low = h.last_low;
          stamp_is = h.after.2;
          attempt_is = h.after.3 ∙ ap (λ (s : CoreState). attempts (entries s.past)) h.after.1;
          legal = subst (λ (s : CoreState). JournalPart s.machine (entries s.past)) h.after.1 h.legal;
          gained = placed_more 0 (length old.core.past) (notes_of (object.Machine old)) (notes_of (object.Machine new)) (record { entry = e; past = old.core.past } ∷ [])
              (one_more e h.after.1) (items_count old.core.past);
        },
        refl,
        is,
      )
  tried_after (Ok (NotYet why)) is h =
      inl (record { word = h.word; calls_are = h.calls_are; now_is = is; due_is = h.after.0; floor_low = h.floor_low; gained = none_gained (same_journal h.after.1) })
  tried_after (Ok Done) is h = record { word = h.word; calls_are = h.calls_are; now_is = is; due_is = h.after.0; floor_low = h.floor_low; gained = none_gained (same_journal h.after.1) }
  tried_after (Err fault) is h =
      record { calls_are = h.calls_are; now_is = is; no_maker = h.after.0; no_device = h.after.1; gained = none_gained (same_journal h.after.2) }

  pub turn_after : (result : Result CoreTurn CoreFault) → AfterMachineTurn old.core new.core who calls floor now result
      → AfterCoreTurn old.core.machine who calls floor now old.core.past result (gained root_of notes_of 0 (notes_of (object.Machine old)) (object.Machine new))
  unfolding gains
  turn_after result (inl h) = tried_after result h.0 h.1
  turn_after result (inr h) =
      subst (λ (r : Result CoreTurn CoreFault). AfterCoreTurn old.core.machine who calls floor now old.core.past r gains) (sym h.shown)
      (inr (record { due = h.due; time = h.time; shown = refl; due_is = h.due_is; time_is = h.time_is; differs = h.differs; gained = none_gained (same_journal h.same) }))
