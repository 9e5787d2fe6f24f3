-- The invariant of the loop of `plans_of`.
use Rattle.std.proofs.Common.{◌≡◌, ◌≤◌, length, map, take, drop}
use Rattle.sleep_model.specs.Places.{all_operations}
use Rattle.script_plan.specs.CallPlans.{with_source}
use Rattle.script_plan.proofs.plan.plans_of.Given as goal

abbrev pub invariant-loop-script : goal.invariant-loop-script
invariant-loop-script l = record {
  plans : l.plans.items ≡ map (with_source l.source) (take l.script-index l.scripts);
  few : length (all_operations (drop l.script-index l.scripts)) ≤ 200000;
}
