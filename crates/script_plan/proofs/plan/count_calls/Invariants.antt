-- The invariant of the loop of `count_calls`.
use Rattle.std.proofs.Common.{◌≡◌, ◌≤◌, ◌*◌, ◌++◌, drop}
use Rattle.script_plan.specs.Plans.{ops_of, turns_from, calls_after}
use Rattle.script_plan.proofs.plan.count_calls.Given as goal

abbrev pub invariant-loop-at : goal.invariant-loop-at
invariant-loop-at l = record {
  few : l.all ≤ 2 * l.at-index;
  turns : l.before_turns.items ++ turns_from l.all (ops_of l.steps (drop l.at-index l.places)) ≡ turns_from 0 (ops_of l.steps l.places);
  calls : calls_after l.all (ops_of l.steps (drop l.at-index l.places)) ≡ calls_after 0 (ops_of l.steps l.places);
}
