-- The invariant of the loop of `first_occurrences`.
use Rattle.std.proofs.Common.{◌≡◌, [], take}
use Rattle.file_rules.specs.Operations.{first_occurrences}
use Rattle.file_rules.specs.Knows.{texts}
use Rattle.file_rules.proofs.names.marks.first_occurrences.Given as goal

abbrev pub invariant-loop-i : goal.invariant-loop-i
invariant-loop-i l = texts l.first.items ≡ first_occurrences [] (texts (take l.i l.names))
