-- The invariant of the loop of `expand`.
use Rattle.std.proofs.Common.{◌≡◌}
use Rattle.sleep_model.specs.Scripts.{times_over}
use Rattle.script_plan.specs.Plans.{round_from}
use Rattle.script_plan.proofs.expand.expand.Given as goal

abbrev pub invariant-loop : goal.invariant-loop
invariant-loop l = l.places.items ≡ times_over l.counter (round_from 0 l.script.steps)
