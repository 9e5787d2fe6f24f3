-- The invariant of the loop of `none_owes`.
use Rattle.std.proofs.Common.{◌≡◌}
use Rattle.sleep_model.specs.Sources.{history}
use Rattle.check_past.specs.Passing.{past_of}
use Rattle.check_rules.specs.Quiet.{none_owes}
use Rattle.check_rules.proofs.jump.none_owes.Given as goal

abbrev pub invariant-loop-s : goal.invariant-loop-s
invariant-loop-s l = l.none ≡ none_owes l.s (λ t. history t (past_of l.past))
