-- The invariant of the loop of `first_line`.
use Rattle.std.proofs.Common.{◌≡◌, ◌++◌, take, drop}
use Rattle.sleep_model.specs.Tasks.{first_line}
use Rattle.script_plan.proofs.texts.first_line.Given as goal

abbrev pub invariant-loop-at : goal.invariant-loop-at
invariant-loop-at l = first_line l.text ≡ take l.at l.text ++ first_line (drop l.at l.text)
