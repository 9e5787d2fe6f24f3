use Rattle.std.proofs.Common.{◌≡◌, ◌≤◌, length, map, take, true}
use Rattle.std.specs.List.{list_all}
use Rattle.borrowed_json.specs.View.{view}
use Rattle.file_rules.specs.Operations.{whole_script}
use Rattle.file_rules.specs.OperationRows.{is_valid_script}
use Rattle.file_rules.specs.Knows.{known_seen}
use Rattle.machine_file.proofs.reading.scripts.scripts_in.Given as goal

abbrev pub invariant-loop-actor : goal.invariant-loop-actor
invariant-loop-actor l =
    (list_all (is_valid_script l.second (known_seen l.known)) (map view (take l.actor-index l.actors)) ≡ true)
    × (length l.known.marks ≤ 200000 → l.scripts.items ≡ map (whole_script (known_seen l.known)) (map view (take l.actor-index l.actors)))
