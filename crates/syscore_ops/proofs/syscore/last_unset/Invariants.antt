-- The invariant of the loop of `last_unset`.
use Rattle.std.proofs.Common.{◌≡◌, not}
use Rattle.std.specs.List.{range_with_len}
use Rattle.sleep_model.specs.Walk.{is_so, last_where}
use Rattle.syscore_ops.proofs.syscore.last_unset.Given as goal

-- the last flag of all that is not set is the last of those that are left
abbrev pub invariant-loop-x : goal.invariant-loop-x
invariant-loop-x l = last_where (λ x. not (is_so l.flags x)) (range_with_len 0 l.n) ≡ last_where (λ x. not (is_so l.flags x)) (range_with_len 0 l.x)
