-- The invariant of the loop of `add_marks`.
use Rattle.std.proofs.Common.{◌≡◌, ◌++◌, map, take}
use Rattle.borrowed_json.specs.View.{view}
use Rattle.file_rules.specs.Operations.{marks_of}
use Rattle.file_rules.specs.Knows.{texts}
use Rattle.file_rules.proofs.names.marks.add_marks.Given as goal

abbrev pub invariant-loop-operation : goal.invariant-loop-operation
invariant-loop-operation l = texts l.marks.items ≡ texts l.initial.marks.items ++ marks_of (map view (take l.operation-index l.script))
