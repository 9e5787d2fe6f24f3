-- The invariant of the loop of `least_broken`.
use Rattle.check_past.specs.Passing.{past_of}
use Rattle.check_rules.specs.Judging.{KeepsBelow}
use Rattle.check_rules.proofs.judge.least_broken.Given as goal

abbrev pub invariant-loop-place : goal.invariant-loop-place
invariant-loop-place l = KeepsBelow l.past.machine (past_of l.past) l.e l.place
