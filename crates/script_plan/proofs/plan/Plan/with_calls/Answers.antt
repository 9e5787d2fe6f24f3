-- Proof that `Plan::with_calls` keeps the invariant of its type, and that it meets what `entry_indices`, `calls_of` and `count_calls` require.
use Rattle.std.proofs.Common.{◌≡◌, ◌∙◌, ◌<◌, ℕ, List, length, ap, arith}
use Rattle.script_plan.specs.CallPlans.{calls_made}
use Rattle.script_plan.specs.Plans.{expanded, entry_indices, op_at, ops_of, turns_from, calls_after}
use Rattle.sleep_model.specs.Scripts.{makes_entry}
use Rattle.sleep_model.specs.declared.machine.Step.{Step}
use Rattle.script_plan.proofs.Planned.{places_within, places_few, filter_within, counted_calls}
use Rattle.script_plan.proofs.plan.Plan.with_calls.Goals as goal

pub entry_indices-requires : goal.entry_indices-requires
entry_indices-requires c = rw (c.as_slice-steps.ensures, c.requires.places) (places_within c.args.script.now)

pub calls_of-requires : goal.calls_of-requires
calls_of-requires c = rw (c.as_slice-steps.ensures, c.requires.places) (places_within c.args.script.now)

pub count_calls-requires-clause-few : goal.count_calls-requires-clause-few
count_calls-requires-clause-few c = rw (c.requires.places) (omega (arith, places_few c.args.script.now 200000 c.requires.few))

pub count_calls-requires-clause-within : goal.count_calls-requires-clause-within
count_calls-requires-clause-within c = rw (c.as_slice-steps.ensures, c.requires.places) (places_within c.args.script.now)

pub invariant_of-result : goal.invariant_of-result
invariant_of-result c =
    let s = c.args.script.now in
    let places : c.args.places.now ≡ expanded s = c.requires.places in
    let kept : c.in_ok-entry_indices.field-0.items ≡ entry_indices s.steps (expanded s) =
    c.in_ok-entry_indices.ensures ∙ (ap (λ (ss : List Step). entry_indices ss c.args.places.now) c.as_slice-steps.ensures ∙ ap (entry_indices s.steps) places) in
    record {
      entry_places_are = kept;
      within = rw (kept) (filter_within (λ (at : ℕ). at < length s.steps) (λ at. makes_entry (op_at s.steps at)) (expanded s) (places_within s));
      calls_are = c.in_ok-calls_of.ensures ∙ (ap (λ (ss : List Step). calls_made c.args.autosleep (ops_of ss c.args.places.now)) c.as_slice-steps.ensures ∙ ap (λ xs. calls_made c.args.autosleep (ops_of s.steps xs)) places);
      counts_are = counted_calls s c.in_ok-count_calls.field-0.before_turns.items c.in_ok-count_calls.field-0.all
          (c.in_ok-count_calls.ensures.turns ∙ (ap (λ (ss : List Step). turns_from 0 (ops_of ss c.args.places.now)) c.as_slice-steps.ensures ∙ ap (λ xs. turns_from 0 (ops_of s.steps xs)) places))
          (c.in_ok-count_calls.ensures.all ∙ (ap (λ (ss : List Step). calls_after 0 (ops_of ss c.args.places.now)) c.as_slice-steps.ensures ∙ ap (λ xs. calls_after 0 (ops_of s.steps xs)) places));
    }
