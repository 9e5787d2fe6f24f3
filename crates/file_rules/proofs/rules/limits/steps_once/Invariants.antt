-- The invariant of the loop of `steps_once`.
use Rattle.std.proofs.Common.{◌≡◌, take}
use Rattle.file_rules.specs.Counted.{steps_once}
use Rattle.file_rules.proofs.rules.limits.steps_once.Given as goal

abbrev pub invariant-loop-step : goal.invariant-loop-step
invariant-loop-step l = l.steps ≡ steps_once (take l.step-index l.script)
