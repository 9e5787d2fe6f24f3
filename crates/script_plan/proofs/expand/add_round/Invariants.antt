-- The invariant of the loop of `add_round`.
use Rattle.std.proofs.Common.{◌≡◌, ◌++◌, drop}
use Rattle.script_plan.specs.Plans.{round_from}
use Rattle.script_plan.proofs.expand.add_round.Given as goal

abbrev pub invariant-loop-at : goal.invariant-loop-at
invariant-loop-at l = l.places.items ++ round_from l.at (drop l.at l.steps) ≡ l.fn.places.items ++ round_from 0 l.steps
