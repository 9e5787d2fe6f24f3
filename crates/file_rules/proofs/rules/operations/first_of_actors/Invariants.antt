-- The invariant of the loop of `first_of_actors`.
use Rattle.std.proofs.Common.{◌≡◌, map, drop}
use Rattle.borrowed_json.specs.View.{view}
use Rattle.file_rules.specs.Places.{first_operation_of}
use Rattle.file_rules.specs.OperationRows.{operation_test}
use Rattle.file_rules.proofs.rules.operations.first_of_actors.Given as goal

-- all operations so far pass
abbrev pub invariant-loop-i : goal.invariant-loop-i
invariant-loop-i l =
    first_operation_of (operation_test l.test l.known) 0 (map view l.actors) ≡ first_operation_of (operation_test l.test l.known) l.i (map view (drop l.i l.actors))
