-- The invariant of the loop of `calls_of`.
use Rattle.std.proofs.Common.{◌≡◌, ◌++◌, drop}
use Rattle.script_plan.specs.CallPlans.{calls_made}
use Rattle.script_plan.specs.Plans.{ops_of}
use Rattle.script_plan.proofs.calls.calls_of.Given as goal

abbrev pub invariant-loop-at : goal.invariant-loop-at
invariant-loop-at l = l.calls.items ++ calls_made l.autosleep (ops_of l.steps (drop l.at-index l.places)) ≡ calls_made l.autosleep (ops_of l.steps l.places)
