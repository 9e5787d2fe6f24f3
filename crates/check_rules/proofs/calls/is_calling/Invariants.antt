-- The invariant of the loop of `is_calling`.
use Rattle.std.proofs.Common.{◌≡◌}
use Rattle.sleep_model.specs.Calls.{is_calling}
use Rattle.sleep_model.specs.Sources.{history}
use Rattle.check_past.specs.Passing.{past_of}
use Rattle.check_rules.proofs.calls.is_calling.Given as goal

abbrev pub invariant-loop-s : goal.invariant-loop-s
invariant-loop-s l = l.calling ≡ is_calling l.s (λ s. history s (past_of l.past)) l.who
