-- The invariant of the loop of `first_repeated`.
use Rattle.std.proofs.Common.{◌≡◌}
use Rattle.file_rules.proofs.Placing.{repeated_from}
use Rattle.file_rules.proofs.names.ranks.first_repeated.Given as goal

-- no key so far stood before
abbrev pub invariant-loop-i : goal.invariant-loop-i
invariant-loop-i g l = repeated_from g.K.PartialEq.eq l.list 0 ≡ repeated_from g.K.PartialEq.eq l.list l.i
