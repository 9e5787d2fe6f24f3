-- The invariant of the loop of `entry_indices`.
use Rattle.std.proofs.Common.{◌≡◌, ◌++◌, drop}
use Rattle.script_plan.specs.Plans.{entry_indices}
use Rattle.script_plan.proofs.plan.entry_indices.Given as goal

abbrev pub invariant-loop-at : goal.invariant-loop-at
invariant-loop-at l = l.kept.items ++ entry_indices l.steps (drop l.at-index l.places) ≡ entry_indices l.steps l.places
