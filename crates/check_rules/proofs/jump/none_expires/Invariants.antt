-- The invariant of the loop of `none_expires`.
use Rattle.std.proofs.Common.{◌≡◌}
use Rattle.sleep_model.specs.Legal.{none_expires}
use Rattle.sleep_model.specs.Sources.{history}
use Rattle.check_past.specs.Passing.{past_of}
use Rattle.check_rules.proofs.jump.none_expires.Given as goal

abbrev pub invariant-loop-s : goal.invariant-loop-s
invariant-loop-s l = l.none ≡ none_expires l.s (λ t. history t (past_of l.past)) l.time
