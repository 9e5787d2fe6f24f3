-- Proof that `Plan::without_calls` keeps the invariant of its type.
use Rattle.std.proofs.Common.{◌≡◌, ◌∙◌, ℕ, List, sym, ap, slice_get}
use Rattle.script_plan.specs.Plans.{count_or}
use Rattle.script_plan.proofs.Planned.{places_within}
use Rattle.script_plan.proofs.WithoutCalls.{all_enter, no_calls, none_ahead}
use Rattle.script_plan.proofs.plan.Plan.without_calls.Goals as goal

pub invariant_of-result : goal.invariant_of-result
invariant_of-result c =
    let s = c.args.script.now in
    record {
      entry_places_are = c.requires.places ∙ sym (all_enter s c.requires.none);
      within = rw (c.requires.places) (places_within s);
      calls_are = c.new.ensures.items ∙ sym (no_calls s c.requires.none c.args.autosleep);
      counts_are = λ source k. ap (λ (zs : List ℕ). count_or (slice_get zs k) c.none.result.all) c.none.ensures.turns ∙ (c.none.ensures.all ∙ sym (none_ahead s c.requires.none source k));
    }
