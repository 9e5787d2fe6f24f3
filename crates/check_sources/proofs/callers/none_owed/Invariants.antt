-- The invariant of the loop of `none_owed`.
use Rattle.std.proofs.Common.{◌≡◌, replicate, []}
use Rattle.check_sources.proofs.callers.none_owed.Given as goal

abbrev pub invariant-loop-i : goal.invariant-loop-i
invariant-loop-i l = l.later.items ≡ replicate l.i []
