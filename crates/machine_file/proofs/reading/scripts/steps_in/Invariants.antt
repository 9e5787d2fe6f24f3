use Rattle.std.proofs.Common.{◌≡◌, ◌≤◌, length, map, take, true}
use Rattle.std.specs.List.{list_all}
use Rattle.borrowed_json.specs.View.{view}
use Rattle.file_rules.specs.Operations.{whole_step}
use Rattle.file_rules.specs.OperationRows.{is_valid_for}
use Rattle.file_rules.specs.Knows.{known_seen}
use Rattle.machine_file.proofs.reading.scripts.steps_in.Given as goal

abbrev pub invariant-loop-operation : goal.invariant-loop-operation
invariant-loop-operation l =
    (list_all (is_valid_for l.second l.kind (known_seen l.known)) (map view (take l.operation-index l.script)) ≡ true)
    × (length l.known.marks ≤ 200000 → l.steps.items ≡ map (whole_step (known_seen l.known)) (map view (take l.operation-index l.script)))
