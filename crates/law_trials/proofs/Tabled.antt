-- The table of one start schedules it.
use Rattle.std.proofs.Common.{◌≡◌, ◌<◌, ℕ, zero, suc, List, [], ◌∷◌, inl, inr, refl, slice_index_or, arith}
use Rattle.sleep_model.specs.declared.word.WordKind.TheVariants as step
use Rattle.event_word.specs.Histories.{AreClosed, SourceStep, steps_of}
use Rattle.run_laws.specs.Apart.{source_past}
use Rattle.run_laws.specs.ClosedOver.{IsClosedOver}
use Rattle.wakeup_source.specs.Shown as told
use Rattle.law_trials.specs.BrokenRuns.{asleep, begun, looks, made_start}
use Rattle.law_trials.specs.Terms.{word}

abbrev one_start : List SourceStep
one_start = record { source = 0; step = step.Start } ∷ []

each_made : (source : ℕ) → source < 2 → slice_index_or made_start source [] ≡ steps_of source one_start
each_made zero less = refl
each_made (suc zero) less = refl
each_made (suc (suc n)) less = absurd (omega (arith, less))

each_history : (source : ℕ) → source < 2 → slice_index_or made_start source [] ≡ told.steps_in (source_past begun source)
each_history zero less = refl
each_history (suc zero) less = refl
each_history (suc (suc n)) less = absurd (omega (arith, less))

is_closed : AreClosed made_start looks (word 1 0 0)
is_closed = record {
  history = one_start;
  makers = (omega arith, tt);
  each_made = each_made;
  turns = (refl, tt);
  placed = (refl, tt);
  last = (refl, refl);
  seen = (((inr refl, tt), (tt, ((inl refl, tt), tt))), (tt, (tt, (tt, tt))));
}

pub is_closed_over : IsClosedOver made_start looks (word 1 0 0) asleep begun
is_closed_over = record {
  closed = is_closed;
  count = refl;
  each_made = each_history;
  kept = refl;
  looks = refl;
  positions = refl;
}
