-- The invariant of the loop of `next_expiry`.
use Rattle.std.proofs.Common.{◌≡◌}
use Rattle.sleep_model.specs.Legal.{next_expiry}
use Rattle.sleep_model.specs.Sources.{history}
use Rattle.check_past.specs.Passing.{past_of}
use Rattle.check_rules.proofs.jump.next_expiry.Given as goal

abbrev pub invariant-loop-s : goal.invariant-loop-s
invariant-loop-s l = l.next ≡ next_expiry l.s (λ t. history t (past_of l.past))
