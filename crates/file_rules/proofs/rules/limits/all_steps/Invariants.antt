-- The invariant of the loop of `all_steps`.
use Rattle.std.proofs.Common.{◌≡◌, take}
use Rattle.file_rules.specs.Counted.{steps_of_scripts}
use Rattle.file_rules.proofs.rules.limits.all_steps.Given as goal

abbrev pub invariant-loop-script : goal.invariant-loop-script
invariant-loop-script l = l.sum ≡ steps_of_scripts (take l.script-index l.scripts)
