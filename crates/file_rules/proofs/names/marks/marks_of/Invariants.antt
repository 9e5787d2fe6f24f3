-- The invariant of the loop of `marks_of`.
use Rattle.std.proofs.Common.{◌≡◌, map, take, flat_map}
use Rattle.borrowed_json.specs.View.{view}
use Rattle.file_rules.specs.Knows.{texts}
use Rattle.file_rules.specs.Marks.{marks_of_script}
use Rattle.file_rules.proofs.names.marks.marks_of.Given as goal

abbrev pub invariant-loop-actor : goal.invariant-loop-actor
invariant-loop-actor l = texts l.marks.items ≡ flat_map marks_of_script (map view (take l.actor-index l.actors))
